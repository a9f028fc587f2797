-- 01, "Bank admission": the window of a sounding instrument zone. Places are whole signed numbers.
use Rattle.std.specs.Prelude.{ℕ, ◌+◌, ℤ, pos, ◌+ℤ◌, ◌*ℤ◌, List, Bool, ◌||◌, ◌&&◌, not, eqb}
use Rattle.std.specs.Int.Signed.{lt_z, le_z}
use Rattle.arith.specs.Bytes.{u32_at}
use Rattle.records.specs.Headers.{sample_at}
use Rattle.records.specs.declared.Parts.{Parts}
use Rattle.arith.specs.Floors.{mod_z}
use Rattle.records.specs.Zones.{value}
use Rattle.records.specs.declared.Zone.{Zone}

-- a place, plus a fine amount, plus 32,768 times a coarse amount
unfoldable pub shifted : ℕ → ℤ → ℤ → ℤ
shifted place fine coarse = pos place +ℤ fine +ℤ coarse *ℤ pos 32768

-- the place of sample k at the offset of its header, moved by the values v of the generators fine and coarse
unfoldable pub place_moved : List ℕ → Parts → ℕ → (ℕ → ℤ) → ℕ → ℕ → ℕ → ℤ
place_moved b m k v offset fine coarse = shifted (u32_at b (sample_at m k + offset)) (v fine) (v coarse)

-- the start of the window of sample k with the values v
unfoldable pub start_of : List ℕ → Parts → ℕ → (ℕ → ℤ) → ℤ
start_of b m k v = place_moved b m k v 20 0 4

-- its end
unfoldable pub end_of : List ℕ → Parts → ℕ → (ℕ → ℤ) → ℤ
end_of b m k v = place_moved b m k v 24 1 12

-- its loop start
unfoldable pub loop_start_of : List ℕ → Parts → ℕ → (ℕ → ℤ) → ℤ
loop_start_of b m k v = place_moved b m k v 28 2 45

-- its loop end
unfoldable pub loop_end_of : List ℕ → Parts → ℕ → (ℕ → ℤ) → ℤ
loop_end_of b m k v = place_moved b m k v 32 3 50

-- its mode: generator 54 modulo 4
unfoldable pub mode_of : (ℕ → ℤ) → ℕ
mode_of v = mod_z (v 54) 4

-- modes 1 and 3 loop; mode 2 counts as 0
unfoldable pub loops : ℕ → Bool
loops mode = eqb mode 1 || eqb mode 3

-- 0 <= start < end < 2^32, and for modes 1 and 3 also start <= loop start < loop end <= end
unfoldable pub good_places : ℤ → ℤ → ℤ → ℤ → Bool → Bool
good_places start end from to looping =
    le_z (pos 0) start && lt_z start end && lt_z end (pos 4294967296)
    && (not looping || le_z start from && lt_z from to && le_z to end)

-- whether the window of sample k with the values v is good
unfoldable pub good_window : List ℕ → Parts → ℕ → (ℕ → ℤ) → Bool
good_window b m k v =
    good_places (start_of b m k v) (end_of b m k v) (loop_start_of b m k v) (loop_end_of b m k v) (loops (mode_of v))

-- the values that move an instrument zone's window: local, else global, else 0
abbrev pub movers : List ℕ → Parts → Zone → Zone → ℕ → ℤ
movers b m local global = value b m.instruments local global (pos 0)
