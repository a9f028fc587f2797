-- What the code finds of a zone's amounts where it looks for a window past its memory.
use Rattle.std.specs.Prelude.{Bool, ◌&&◌, List, ℕ, ℤ}
use Rattle.records.specs.Internal.Amounts.{poured, at}
use Rattle.records.specs.Zones.{zone_at}
use Rattle.records.specs.declared.Parts.{Parts}
use Rattle.bank.specs.Past.{window_past}

-- instrument zone z is sounding, and with its amounts over those of the global zone its window ends past its memory
unfoldable pub past_over : List ℕ → Parts → ℕ → ℕ → List ℤ → ℕ → Bool
past_over b m ram rom v z =
    let zone = zone_at b m.instruments z in
    zone.sounding && window_past b m ram rom zone.link (at (poured b m.instruments zone v))
