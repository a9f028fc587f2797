-- Loops over slots: what has been mapped, counted and added when the first i of a list are done.
use Prim.Native.Nat.{ℕ, suc, ◌+◌, ◌≤◌, zero, ◌<◌}
use mathlib.Core.Bool.{Bool, true, false, cond, ◌||◌, or-false, or_assoc}
use native.Mathlib.Omega.{arith}
use mathlib.Core.Path.{◌≡◌, refl, ap, sym, ◌∙◌}
use mathlib.Core.List.{List, [], ◌∷◌, map, ◌++◌}
use lib.ListN.{length, get_or, set, take}
use lib.IntN.{ℤ, pos, ◌+ℤ◌, +ℤ_assoc, +ℤ_idl, +ℤ_idr}
use lib.Seq.{set-get_or, take-suc}
use native.Mathlib.Nat.{not-suc-le-zero, le_of_suc-le-suc, suc-ne-zero, suc_inj}
use native.Mathlib.Numerals.{add-one}
use Rattle.arith.specs.Lists.{count_if, sum_of, any_of}

one_more : (b : Bool) (i n : ℕ) → n ≤ i → cond b 1 0 + n ≤ suc i
one_more true i n h = omega arith
one_more false i n h = omega arith

module _ {A : Type 0} where
  -- f over the first i elements
  unfoldable pub upto : (A → A) → ℕ → List A → List A
  upto f zero xs = xs
  upto f (suc i) [] = []
  upto f (suc i) (x ∷ xs) = f x ∷ upto f i xs

  pub upto-at : (f : A → A) (xs : List A) (i : ℕ) (d : A) → get_or (upto f i xs) i d ≡ get_or xs i d
  unfolding upto
  upto-at f [] zero d = refl
  upto-at f [] (suc i) d = refl
  upto-at f (x ∷ xs) zero d = refl
  upto-at f (x ∷ xs) (suc i) d = upto-at f xs i d

  pub upto-length : (f : A → A) (xs : List A) (i : ℕ) → length (upto f i xs) ≡ length xs
  unfolding upto
  upto-length f [] zero = refl
  upto-length f [] (suc i) = refl
  upto-length f (x ∷ xs) zero = refl
  upto-length f (x ∷ xs) (suc i) = ap suc (upto-length f xs i)

  pub upto-set : (f : A → A) (xs : List A) (i : ℕ) (d : A) → i < length xs → set (upto f i xs) i (f (get_or xs i d)) ≡ upto f (i + 1) xs
  unfolding upto
  upto-set f [] i d h = absurd (not-suc-le-zero h)
  upto-set f (x ∷ xs) zero d h = refl
  upto-set f (x ∷ xs) (suc i) d h = rw (add-one) (ap (◌∷◌ (f x)) (rw add-one at (upto-set f xs i d (omega arith))))

  -- where f keeps the element at i, nothing has to be stored
  pub upto-keep : (f : A → A) (xs : List A) (i : ℕ) (d : A) → i < length xs → f (get_or xs i d) ≡ get_or xs i d → upto f i xs ≡ upto f (i + 1) xs
  upto-keep f xs i d h e =
      sym (set-get_or (upto f i xs) i d) ∙ ap (set (upto f i xs) i) (upto-at f xs i d ∙ sym e) ∙ upto-set f xs i d h

  -- a turn that stores f of the element it read
  pub step_set : (f : A → A) (xs : List A) (i : ℕ) (d r : A) → i < length xs → r ≡ f (get_or (upto f i xs) i d) → set (upto f i xs) i r ≡ upto f (i + 1) xs
  step_set f xs i d r h e = ap (set (upto f i xs) i) (e ∙ ap f (upto-at f xs i d)) ∙ upto-set f xs i d h

  -- a turn that stores nothing
  pub step-keep : (f : A → A) (xs : List A) (i : ℕ) (d : A) → i < length xs → f (get_or (upto f i xs) i d) ≡ get_or (upto f i xs) i d → upto f i xs ≡ upto f (i + 1) xs
  step-keep f xs i d h e = upto-keep f xs i d h (rw (upto-at f xs i d) at e)

  -- f over all of them is map
  pub upto_all : (f : A → A) (xs : List A) (n : ℕ) → length xs ≡ n → upto f n xs ≡ map f xs
  unfolding upto
  upto_all f [] zero e = refl
  upto_all f [] (suc n) e = refl
  upto_all f (x ∷ xs) zero e = absurd (suc-ne-zero _ e)
  upto_all f (x ∷ xs) (suc n) e = ap (◌∷◌ (f x)) (upto_all f xs n (suc_inj e))

  -- how many of the first i pass
  unfoldable pub count_to : (A → Bool) → ℕ → List A → ℕ
  count_to p zero xs = 0
  count_to p (suc i) [] = 0
  count_to p (suc i) (x ∷ xs) = cond (p x) 1 0 + count_to p i xs

  pub count-step : (p : A → Bool) (xs : List A) (i : ℕ) (d : A) → i < length xs → count_to p (i + 1) xs ≡ count_to p i xs + cond (p (get_or xs i d)) 1 0
  unfolding count_to
  count-step p [] i d h = absurd (not-suc-le-zero h)
  count-step p (x ∷ xs) zero d h = omega arith
  count-step p (x ∷ xs) (suc i) d h = rw add-one (omega (arith, rw add-one at (count-step p xs i d (le_of_suc-le-suc h))))

  pub count-all : (p : A → Bool) (xs : List A) (n : ℕ) → length xs ≡ n → count_to p n xs ≡ count_if p xs
  unfolding count_to
  count-all p [] zero e = refl
  count-all p [] (suc n) e = refl
  count-all p (x ∷ xs) zero e = absurd (suc-ne-zero _ e)
  count-all p (x ∷ xs) (suc n) e = ap (◌+◌ (cond (p x) 1 0)) (count-all p xs n (suc_inj e))

  pub count-le : (p : A → Bool) (xs : List A) (i : ℕ) → count_to p i xs ≤ i
  unfolding count_to
  count-le p xs zero = omega arith
  count-le p [] (suc i) = omega arith
  count-le p (x ∷ xs) (suc i) = one_more (p x) i (count_to p i xs) (count-le p xs i)

  -- a turn that adds one for a voice that passes
  pub step_count : (p : A → Bool) (f : A → A) (xs : List A) (i n m : ℕ) (d : A) → i < length xs → n ≡ count_to p i xs → m ≡ cond (p (get_or (upto f i xs) i d)) 1 0 → n + m ≡ count_to p (i + 1) xs
  step_count p f xs i n m d h e e' =
      omega (arith, e, e' ∙ ap (λ (x : A). cond (p x) 1 0) (upto-at f xs i d), count-step p xs i d h)

  -- the sum of f over the first i of a list
  unfoldable pub sum_to : (A → ℤ) → ℕ → List A → ℤ
  sum_to f zero xs = pos 0
  sum_to f (suc i) [] = pos 0
  sum_to f (suc i) (x ∷ xs) = f x +ℤ sum_to f i xs

  sum-suc : (f : A → ℤ) (xs : List A) (i : ℕ) (d : A) → i < length xs → sum_to f (suc i) xs ≡ sum_to f i xs +ℤ f (get_or xs i d)
  unfolding sum_to
  sum-suc f [] i d h = absurd (not-suc-le-zero h)
  sum-suc f (x ∷ xs) zero d h = +ℤ_idr (f x) ∙ sym (+ℤ_idl (f x))
  sum-suc f (x ∷ xs) (suc i) d h = ap (◌+ℤ◌ (f x)) (sum-suc f xs i d (le_of_suc-le-suc h)) ∙ sym (+ℤ_assoc (f x) (sum_to f i xs) (f (get_or xs i d)))

  pub sum_step : (f : A → ℤ) (xs : List A) (i : ℕ) (d : A) → i < length xs → sum_to f (i + 1) xs ≡ sum_to f i xs +ℤ f (get_or xs i d)
  sum_step f xs i d h = rw add-one (sum-suc f xs i d h)

  pub sum-all : (f : A → ℤ) (xs : List A) (n : ℕ) → length xs ≡ n → sum_to f n xs ≡ sum_of f xs
  unfolding sum_to
  sum-all f [] zero e = refl
  sum-all f [] (suc n) e = refl
  sum-all f (x ∷ xs) zero e = absurd (suc-ne-zero _ e)
  sum-all f (x ∷ xs) (suc n) e = ap (◌+ℤ◌ (f x)) (sum-all f xs n (suc_inj e))

  any_snoc : (p : A → Bool) (xs : List A) (x : A) → any_of p (xs ++ (x ∷ [])) ≡ (any_of p xs || p x)
  any_snoc p [] x = or-false (p x)
  any_snoc p (y ∷ xs) x = ap (λ (b : Bool). p y || b) (any_snoc p xs x) ∙ sym (or_assoc (p y) (any_of p xs) (p x))

  -- a search for one that passes: before the first turn, and a turn
  pub any_none : (p : A → Bool) (xs : List A) → any_of p (take 0 xs) ≡ false
  any_none p xs = refl

  pub any-turn : (p : A → Bool) (xs : List A) (i : ℕ) (d : A) → i < length xs → any_of p (take (i + 1) xs) ≡ (any_of p (take i xs) || p (get_or xs i d))
  any-turn p xs i d h = rw (add-one, take-suc xs i d h) (any_snoc p (take i xs) (get_or xs i d))
