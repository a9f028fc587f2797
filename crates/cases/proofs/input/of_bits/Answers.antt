-- Bits that, without their sign, are at most those of the infinity are no NaN's.
use borrow.Author.Tests.{eq-eqb, eqb-true}
use mathlib.Core.Bool.{Bool, true, false, not, ◌&&◌}
use mathlib.Core.Path.{◌≡◌, refl}
use native.Mathlib.Omega.{arith}
use Prim.Native.Nat.{ℕ, ◌≤◌, ◌/◌, ◌%◌}
use lib.Dec.{T, eqb}
use lib.Ieee.{binary32, nan_bits}
use Rattle.cases.proofs.input.of_bits.Goals as goal

-- a field of all ones has no digit behind it
number : (b : ℕ) → b % 2147483648 ≤ 2139095040 → T (not (nan_bits binary32 b))
unfolding nan_bits
number b h = go (eqb (b % 2147483648 / 8388608) 255) refl
  where
    go : (t : Bool) → eqb (b % 2147483648 / 8388608) 255 ≡ t → T (not (t && not (eqb (b % 8388608) 0)))
    go true e = let f = eqb-true (b % 2147483648 / 8388608) 255 e in rw (eq-eqb (b % 8388608) 0 (omega (arith, f))) tt
    go false e = tt

pub float_from_bits-result : goal.float_from_bits-result
float_from_bits-result c = number c.args.bits (omega arith)
