-- 01, "A voice, frame by frame": the sum of voices, held, times 2^-23 is the output, exact.
use Rattle.std.specs.Prelude.{ℤ, pos, negsuc, unsigned_abs, Float}
use Rattle.std.specs.Float.{binary32}
use Rattle.std.specs.Float.Ieee.{round}
use Rattle.arith.specs.Floats.{is_neg}
use Rattle.arith.specs.Holds.{held_to}

-- the f32 nearest to k / 2 ^ 23: for k from -2 ^ 24 to 2 ^ 24 it is k / 2 ^ 23 itself (law `unit-exact`)
unfoldable pub unit_of : ℤ → Float
unit_of k = round binary32 (is_neg k) (unsigned_abs k) 8388608

-- a sum held to -2^23..2^23, times 2^-23 (`unit_of k` is k / 2^23, exact)
abbrev pub mixed : ℤ → Float
mixed z = unit_of (held_to (negsuc 8388607) (pos 8388608) z)
