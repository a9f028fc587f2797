-- Test 4 by the numbers that the code reads.
use mathlib.Core.Bool.{Bool}
use mathlib.Core.Path.{◌≡◌}
use Prim.Native.Nat.{ℕ, ◌-◌}
use Rattle.bank.specs.Indexes.{bad_at}

-- index i and the one before are read, and then tested
pub index_read : (index : ℕ → ℕ) (i n m : ℕ) {k x y : ℕ} {r : Bool} → k ≡ i - 1 → x ≡ index k → y ≡ index i → r ≡ bad_at x y i n m → r ≡ bad_at (index (i - 1)) (index i) i n m
index_read index i n m p q s e = cc
