-- A table's rule, proved over all of its entries by one computed test.
use Prim.Native.Nat.{ℕ, ◌≤◌, ◌+◌, ◌<◌, suc, zero}
use mathlib.Core.Bool.{Bool, true, false}
use lib.Dec.{leb, ltb, T, leb→le, ltb→lt}
use mathlib.Core.Path.{◌≡◌, refl, ◌∙◌, subst, sym}
use native.Mathlib.Omega.{arith}
use borrow.Author.Tests.{ltb-true, ltb-false}
use mathlib.Core.List.{List, [], ◌∷◌, ◌++◌}
use native.Mathlib.Nat.{add-zero, add-suc, suc-add, le_of_suc-le-suc, not-suc-le-zero, zero-add}
use lib.ListN.{length, get_or}
use Rattle.curves.specs.Loudness.{Largest}

-- both tests, of which the second is not computed where the first fails
abbrev pub both : Bool → Bool → Bool
both true b = b
both false b = false

-- f n is at most the limit, and f (n + 1) is above it
abbrev pub fits : (ℕ → ℕ) → ℕ → ℕ → Bool
fits f limit n = both (leb (f n) limit) (ltb limit (f (n + 1)))

pub both_left : (a b : Bool) → T (both a b) → T a
both_left true b t = tt
both_left false b t = t

pub fits_low : (f : ℕ → ℕ) (limit n : ℕ) → T (fits f limit n) → f n ≤ limit
fits_low f limit n t = leb→le (f n) limit (both_left (leb (f n) limit) (ltb limit (f (n + 1))) t)

pub both_right : (a b : Bool) → T (both a b) → T b
both_right true b t = t
both_right false b t = absurd t

pub fits-high : (f : ℕ → ℕ) (limit n : ℕ) → T (fits f limit n) → limit < f (n + 1)
fits-high f limit n t = ltb→lt limit (f (n + 1)) (both_right (leb (f n) limit) (ltb limit (f (n + 1))) t)

-- where f never falls
pub largest : (f : ℕ → ℕ) (limit n : ℕ) → ((a b : ℕ) → a ≤ b → f a ≤ f b) → T (fits f limit n) → Largest (λ (m : ℕ). f m ≤ limit) n
largest f limit n rises t = record { holds = fits_low f limit n t; most = most }
  where
    clash : (x y z : ℕ) → x ≤ y → y ≤ z → z < x → ⊥
    clash x y z h k l = omega arith

    past : (m : ℕ) → f m ≤ limit → n + 1 ≤ m → ⊥
    past m h k = clash (f (n + 1)) (f m) limit (rises (n + 1) m k) h (fits-high f limit n t)

    most : (m : ℕ) → f m ≤ limit → m ≤ n
    most m h = by (ltb n m) refl
      where
        by : (b : Bool) → ltb n m ≡ b → m ≤ n
        by true e = let l : n + 1 ≤ m = omega (arith, ltb-true n m e) in absurd (past m h l)
        by false e = ltb-false n m e

both-make : (a b : Bool) → T a → T b → T (both a b)
both-make true b s t = t
both-make false b s t = s

-- the test f passes at each entry of the list and its place, counted from i
abbrev pub every : (ℕ → ℕ → Bool) → ℕ → List ℕ → Bool
every f i [] = true
every f i (x ∷ xs) = both (f i x) (every f (suc i) xs)

from : (f : ℕ → ℕ → Bool) (xs : List ℕ) (i : ℕ) → T (every f i xs) → (k : ℕ) → k < length xs → T (f (i + k) (get_or xs k 0))
from f [] i t k h = absurd (not-suc-le-zero h)
from f (x ∷ xs) i t zero h = subst (λ (m : ℕ). T (f m x)) (sym (add-zero i)) (both_left (f i x) (every f (suc i) xs) t)
from f (x ∷ xs) i t (suc k) h =
    subst (λ (m : ℕ). T (f m (get_or xs k 0))) (suc-add i k ∙ sym (add-suc i k))
    (from f xs (suc i) (both_right (f i x) (every f (suc i) xs) t) k (le_of_suc-le-suc h))

pub at : (f : ℕ → ℕ → Bool) (xs : List ℕ) → T (every f 0 xs) → (k : ℕ) → k < length xs → T (f k (get_or xs k 0))
at f xs t k h = subst (λ (m : ℕ). T (f m (get_or xs k 0))) (zero-add k) (from f xs 0 t k h)

-- the test of a list in two parts
pub join : (f : ℕ → ℕ → Bool) (i : ℕ) (xs ys : List ℕ) → T (every f i xs) → T (every f (i + length xs) ys) → T (every f i (xs ++ ys))
join f i [] ys s t = subst (λ (k : ℕ). T (every f k ys)) (add-zero i) t
join f i (x ∷ xs) ys s t =
    both-make (f i x) (every f (suc i) (xs ++ ys)) (both_left (f i x) (every f (suc i) xs) s)
    (join f (suc i) xs ys (both_right (f i x) (every f (suc i) xs) s) (subst (λ (k : ℕ). T (every f k ys)) (add-suc i (length xs) ∙ sym (suc-add i (length xs))) t))

-- no entry is above m
unfoldable pub all_le : ℕ → List ℕ → Bool
all_le m [] = true
all_le m (x ∷ xs) = both (leb x m) (all_le m xs)

pub each-le : (m : ℕ) (xs : List ℕ) → T (all_le m xs) → (i : ℕ) → get_or xs i 0 ≤ m
unfolding all_le
each-le m [] t i = omega arith
each-le m (x ∷ xs) t zero = leb→le x m (both_left (leb x m) (all_le m xs) t)
each-le m (x ∷ xs) t (suc i) = each-le m xs (both_right (leb x m) (all_le m xs) t) i
