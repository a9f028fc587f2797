-- 01, "Bank admission", test 7: windows.
use Rattle.std.specs.Prelude.{Bool, not, ◌&&◌, List, ℕ, Option}
use Rattle.records.specs.Windows.{good_window, movers}
use Rattle.records.specs.Zones.{zone_at, global_of, first_zone}
use Rattle.records.specs.declared.Parts.{Parts}
use Rattle.records.specs.Looking.{placed}
use Rattle.bank.specs.Links.{zone_link_at}

-- 7. a window: zone z of instrument h is sounding, and its window is not good
unfoldable pub bad_window : List ℕ → Parts → ℕ → ℕ → Bool
bad_window b m h z =
    let zone = zone_at b m.instruments z in
    zone.sounding && not (good_window b m zone.link (movers b m zone (global_of b m.instruments h)))

-- the zone's 53 record
unfoldable pub window_fault : List ℕ → Parts → Option ℕ
window_fault b m = placed (zone_link_at b m.instruments) (first_zone b m.instruments (bad_window b m))
