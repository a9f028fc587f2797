-- What the code of test 7 finds of a zone's amounts.
use Rattle.std.specs.Prelude.{List, ℕ, ℤ, Bool, not, ◌&&◌}
use Rattle.records.specs.Windows.{good_window}
use Rattle.records.specs.declared.Parts.{Parts}
use Rattle.records.specs.Internal.Amounts.{poured, at}
use Rattle.records.specs.Zones.{zone_at}

-- instrument zone z is sounding, and with its amounts over those of the global zone its window is not good
unfoldable pub bad_over : List ℕ → Parts → List ℤ → ℕ → Bool
bad_over b m v z =
    let zone = zone_at b m.instruments z in
    zone.sounding && not (good_window b m zone.link (at (poured b m.instruments zone v)))
