-- 01, "Bank admission", test 6: sample rates.
use Rattle.std.specs.Prelude.{Bool, ◌&&◌, not, List, ℕ, ◌-◌, eqb, Option, is_some}
use Rattle.records.specs.Zones.{zone_at, first_zone}
use Rattle.records.specs.declared.Side.{Side}
use Rattle.records.specs.Looking.{placed, first}
use Rattle.arith.specs.Holds.{between}
use Rattle.records.specs.Headers.{rate_of, sample_at}
use Rattle.records.specs.declared.Parts.{Parts}

-- 6. a sample rate: whether instrument zone z is sounding and names sample k
unfoldable pub names_sample : List ℕ → Side → ℕ → ℕ → ℕ → Bool
names_sample b s k h z = (zone_at b s z).sounding && eqb (zone_at b s z).link k

-- sample k has a rate outside 400..50,000, and a sounding zone names it
unfoldable pub bad_rate : List ℕ → Parts → ℕ → Bool
bad_rate b m k = not (between 400 50000 (rate_of b m k)) && is_some (first_zone b m.instruments (names_sample b m.instruments k))

-- the shdr record
unfoldable pub rate_fault : List ℕ → Parts → Option ℕ
rate_fault b m = placed (sample_at m) (first (bad_rate b m) 0 (m.instruments.nlinks - 1))
