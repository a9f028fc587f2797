-- 01, "Bank admission" and "Calls": the first window that ends past the end of its lent sample memory.
use Rattle.std.specs.Prelude.{Bool, cond, ◌&&◌, List, ℕ, ℤ, pos, Option, None}
use Rattle.std.specs.Int.Signed.{lt_z}
use Rattle.records.specs.Headers.{rom_of}
use Rattle.records.specs.Looking.{placed}
use Rattle.records.specs.Sides.{parts_of}
use Rattle.records.specs.Windows.{end_of, movers}
use Rattle.records.specs.Zones.{zone_at, global_of, first_zone}
use Rattle.records.specs.declared.Parts.{Parts}
use Rattle.bank.specs.Admission.{admitted}
use Rattle.bank.specs.Links.{zone_link_at}

-- whether the window of sample k with the values v ends past the end of its memory: ROM or RAM, of so many samples
unfoldable pub window_past : List ℕ → Parts → ℕ → ℕ → ℕ → (ℕ → ℤ) → Bool
window_past b m ram rom k v = lt_z (pos (cond (rom_of b m k) rom ram)) (end_of b m k v)

-- zone z of instrument h is sounding, and its window ends past the end of its memory
unfoldable pub zone_past : List ℕ → Parts → ℕ → ℕ → ℕ → ℕ → Bool
zone_past b m ram rom h z =
    let zone = zone_at b m.instruments z in
    zone.sounding && window_past b m ram rom zone.link (movers b m zone (global_of b m.instruments h))

-- the 53 record of the first such zone
unfoldable pub past_fault : List ℕ → Parts → ℕ → ℕ → Option ℕ
past_fault b m ram rom = placed (zone_link_at b m.instruments) (first_zone b m.instruments (zone_past b m ram rom))

-- the same of a bank's bytes; nothing where the bank is not admitted
unfoldable pub past_memory : List ℕ → ℕ → ℕ → Option ℕ
past_memory b ram rom = cond (admitted b) (past_fault b (parts_of b) ram rom) None
