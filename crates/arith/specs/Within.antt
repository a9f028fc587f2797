-- A bound on the size of a signed number.
use Rattle.std.specs.Prelude.{ℕ, ◌≤◌, ℤ, nat_abs}

-- the bound itself: the magnitude of z is at most n
pub record Within (z : ℤ) (n : ℕ) : Type 0 where
  pub within : nat_abs z ≤ n
