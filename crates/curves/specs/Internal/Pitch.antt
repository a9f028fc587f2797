-- The step of a pitch total before it is held, as the code's contract says it.
use Rattle.std.specs.Prelude.{ℕ, ℤ}
use Rattle.curves.specs.Pitch.{pitch_held, lifted, step_of}

-- the step of a pitch total before it is held, in 2^-24 samples
unfoldable pub step_at : ℤ → ℕ → ℕ
step_at cents rate = step_of (lifted (pitch_held cents)) rate
