-- `Over x k d`: the float x is finite and is exactly k / d. Its sign is k's, so 0 is +0.
use Rattle.std.specs.Prelude.{Bool, true, false, ℤ, pos, negsuc, nat_abs, ℕ, Float}
use Rattle.std.specs.Float.Ieee.Exact.{HasValue}

-- the sign of a whole number: whether it is below 0
abbrev pub is_neg : ℤ → Bool
is_neg (pos n) = false
is_neg (negsuc n) = true

-- x is k / d with nothing rounded
pub record Over (x : Float) (k : ℤ) (d : ℕ) : Type 0 where
  pub value : HasValue x (is_neg k) (nat_abs k) d
