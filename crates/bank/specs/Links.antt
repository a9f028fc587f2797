-- 01, "Bank admission", test 5: an instrument's or sample's number too high.
use Rattle.std.specs.Prelude.{Bool, not, ◌&&◌, List, ℕ, ◌-◌, ltb, Option}
use Rattle.records.specs.Zones.{zone_at, link_at, first_zone}
use Rattle.records.specs.declared.Side.{Side}
use Rattle.records.specs.Looking.{placed, or_else}
use Rattle.records.specs.declared.Parts.{Parts}

-- 5. an instrument or sample number too high: zone z is sounding, and its number is not below the terminal's
unfoldable pub bad_number : List ℕ → Side → ℕ → ℕ → Bool
bad_number b s h z = (zone_at b s z).sounding && not (ltb (zone_at b s z).link (s.nlinks - 1))

-- the 41 or 53 record of zone z
unfoldable pub zone_link_at : List ℕ → Side → ℕ → ℕ
zone_link_at b s z = link_at s (zone_at b s z)

-- the record of a side's first zone with a number too high
unfoldable pub link_fault : List ℕ → Side → Option ℕ
link_fault b s = placed (zone_link_at b s) (first_zone b s (bad_number b s))

-- presets stand before instruments
unfoldable pub number_fault : List ℕ → Parts → Option ℕ
number_fault b m = or_else (link_fault b m.presets) (link_fault b m.instruments)
