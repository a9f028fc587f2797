-- Laws of the hash: one more at the end, and a number that is not itself is a NaN.
use Rattle.std.proofs.Common.{◌≡◌, ℕ, ◌+◌, ◌*◌, ◌<◌, Bool, true, false, not, List, [], ◌∷◌, ◌++◌, length, get_or, take, refl, ap, add-one, take-suc, eq-eqb}
use lib.Ieee.{Float, nan, inf, fin, ne, eq, is_nan, up, down}
use mathlib.Core.Bool.{beq}
use Rattle.cases.specs.Internal.Hash.{hash_each}

-- the hash over a list and one more
after_more : {A : Type 0} (f : ℕ → A → ℕ) (h : ℕ) (xs : List A) (x : A) → hash_each f h (xs ++ (x ∷ [])) ≡ f (hash_each f h xs) x
unfolding hash_each
after_more f h [] x = refl
after_more f h (y ∷ ys) x = after_more f (f h y) ys x

-- the hash over the first i + 1 of a list
pub hash-step : {A : Type 0} (f : ℕ → A → ℕ) (h : ℕ) (xs : List A) (i : ℕ) (d : A) → i < length xs → hash_each f h (take (i + 1) xs) ≡ f (hash_each f h (take i xs)) (get_or xs i d)
hash-step f h xs i d l = rw (add-one, take-suc xs i d l) (after_more f h (take i xs) (get_or xs i d))

beq-self : (s : Bool) → beq s s ≡ true
beq-self true = refl
beq-self false = refl

-- a number differs from itself exactly where it is a NaN
pub self : (x : Float) → ne x x ≡ is_nan x
unfolding ne eq is_nan
self nan = refl
self (inf s) = ap not (beq-self s)
self (fin s m e) = rw (eq-eqb _ _ (refl {a = m * up e * down e}), beq-self s)
