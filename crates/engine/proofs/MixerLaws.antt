-- A held sum of voices is output as exactly its 2^23rd part.
use Rattle.std.proofs.Common.{◌≡◌, ℤ, pos, negsuc, nat_abs, sym, refl, subst, lit≤}
use lib.Ieee.{Float}
use Rattle.arith.specs.Floats.{is_neg, Over}
use Rattle.engine.specs.Mixer.{unit_of}
use Rattle.arith.specs.Within.{Within}
use Rattle.arith.proofs.FloatsLaws.{round-down}
use Rattle.arith.proofs.WithinLaws.{w_le}
use Rattle.arith.specs.Holds.{held_to}
use Rattle.arith.proofs.HoldsLaws.{held-within}

-- the fraction is a binary32 itself
pub unit-exact : (k : ℤ) → Within k 16777216 → Over (unit_of k) k 8388608
unfolding unit_of
unit-exact k h = record { value = round-down (is_neg k) (nat_abs k) 23 126 refl h.within }

-- a float that is made as the nearest one is the fraction itself
pub unit-made : (x : Float) (k : ℤ) → Within k 16777216 → x ≡ unit_of k → (x ≡ unit_of k) × Over x k 8388608
unit-made x k w e = (e, subst (λ (y : Float). Over y k 8388608) (sym e) (unit-exact k w))

-- a sum of voices, held to -2^23..2^23, is output as exactly its 2^23rd part
pub mixed-exact : (z : ℤ) → Over (unit_of (held_to (negsuc 8388607) (pos 8388608) z)) (held_to (negsuc 8388607) (pos 8388608) z) 8388608
mixed-exact z = unit-exact (held_to (negsuc 8388607) (pos 8388608) z) (w_le (held-within z 8388607) (lit≤ tt))
