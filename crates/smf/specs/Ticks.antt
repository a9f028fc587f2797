-- 02, M-101: ticks to frames. The sum U of ticks times the tempo then in force is a whole number, and nothing is rounded on the way.
use Rattle.std.specs.Prelude.{Bool, ℕ, ◌+◌, ◌*◌, ◌/◌, ltb}
use Rattle.smf.specs.declared.Cursor.{Cursor}

-- U, so many ticks behind a cursor
abbrev pub sum_after : Cursor → ℕ → ℕ
sum_after c ticks = c.sum + ticks * c.tempo

-- U above 3,600,000,000 times the division: past an hour
abbrev pub is_late : ℕ → ℕ → Bool
is_late division sum = ltb (3600000000 * division) sum

-- the frame of U: floor(U * 44,100 / (division * 1,000,000))
unfoldable pub frame_of : ℕ → ℕ → ℕ
frame_of division sum = sum * 44100 / (division * 1000000)
