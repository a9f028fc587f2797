-- What the code of test 6 keeps while it goes over the zones once.
use Rattle.std.specs.Prelude.{cond, Bool, not, ◌&&◌, ℕ, ◌-◌, zero, suc, ◌+◌, ltb, List, Option, None, Some}
use Rattle.arith.specs.Holds.{between}
use Rattle.records.specs.Headers.{rate_of}
use Rattle.records.specs.Zones.{zone_at}
use Rattle.records.specs.declared.Parts.{Parts}

-- the lower of what was found and k
abbrev pub lower : Option ℕ → ℕ → Option ℕ
lower None k = Some k
lower (Some x) k = cond (ltb x k) (Some x) (Some k)

-- instrument zone z is sounding, and names a sample of the bank with a rate outside 400..50,000
unfoldable pub bad_rated : List ℕ → Parts → ℕ → Bool
bad_rated b m z =
    let zone = zone_at b m.instruments z in
    zone.sounding && ltb zone.link (m.instruments.nlinks - 1) && not (between 400 50000 (rate_of b m zone.link))

-- the lowest sample at fault, zone z looked at too
unfoldable pub with_zone : List ℕ → Parts → ℕ → Option ℕ → Option ℕ
with_zone b m z low = cond (bad_rated b m z) (lower low (zone_at b m.instruments z).link) low

-- the same, the n zones from `from` on looked at too
unfoldable pub with_zones : List ℕ → Parts → ℕ → ℕ → Option ℕ → Option ℕ
with_zones b m from zero low = low
with_zones b m from (suc n) low = with_zone b m (from + n) (with_zones b m from n low)
