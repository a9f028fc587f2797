-- The frames: the entry times 44,100 times the power of two fits 64 bits, and is then divided.
use mathlib.Core.Path.{◌≡◌}
use Prim.Native.Nat.{ℕ, ◌*◌, ◌/◌, ◌%◌, ◌^◌, ◌≤◌}
use native.Mathlib.Nat.{lt_of_le_of_lt, mul-le-mul, le_refl}
use native.Mathlib.Omega.{arith}
use lib.Dec.{lit<}
use lib.ListN.{get_or}
use Rattle.curves.specs.Times.{frames_up}
use Rattle.curves.specs.Octave.{octaves}
use Rattle.curves.proofs.octave.OctaveTable.frames_up.Goals as goal

is-frames : (c t p : ℕ) → t ≡ get_or octaves (c % 1200) 0 → p ≡ 2 ^ (c / 1200) → t * 44100 * p / 1099511627776 ≡ frames_up c
unfolding frames_up
is-frames c t p e f = rw (e, f)

most : (t p : ℕ) → t ≤ 2147483647 → p ≤ 65536 → t * 44100 * p ≤ 6206523233579827200
most t p h k = mul-le-mul (mul-le-mul h (le_refl 44100)) k

pub returns : goal.returns
returns c = is-frames c.args.c c.entry.result c.two_to.result c.entry.ensures.0 c.two_to.ensures.0
