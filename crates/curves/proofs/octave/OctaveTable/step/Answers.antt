-- The step: the entry times the rate, divided by 44,100 and then by the power of two.
use mathlib.Core.Path.{◌≡◌}
use Prim.Native.Nat.{ℕ, ◌-◌, ◌*◌, ◌/◌, ◌%◌, ◌^◌, ◌≤◌}
use native.Mathlib.Nat.{le_trans, lt_of_le_of_lt, mul-le-mul, div-le_self, div-div-eq-div-mul}
use native.Mathlib.Omega.{arith}
use lib.Dec.{lit<}
use lib.IntN.{ℤ}
use lib.ListN.{get_or}
use mir.Facts.{to_z-of_z}
use Rattle.curves.specs.Octave.{octaves}
use Rattle.curves.specs.Pitch.{lifted, pitch_held, step_of}
use Rattle.curves.specs.Internal.Pitch.{step_at}
use Rattle.curves.proofs.octave.OctaveTable.step.Goals as goal

is-step : (cents : ℤ) (rate u t : ℕ) → u ≡ lifted (pitch_held cents) → t ≡ get_or octaves (u % 1200) 0
    → t * rate / 44100 / 2 ^ (14 - u / 1200) ≡ step_at cents rate
unfolding step_at step_of
is-step cents rate u t e f = rw (f, div-div-eq-div-mul _ 44100 _, e)

most : (t rate : ℕ) → t ≤ 2147483647 → rate ≤ 65535 → t * rate ≤ 140735340806145
most t rate h k = mul-le-mul h k

pub returns : goal.returns
returns c = is-step c.args.cents c.args.rate c.lift-c.result c.entry.result (rw (to_z-of_z c.ranges.cents) at c.lift-c.ensures.0) c.entry.ensures.0
