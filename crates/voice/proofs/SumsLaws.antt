-- Laws of numbers added into a list of sums.
use mathlib.Core.Path.{◌≡◌, refl, ap, ap₂, sym, ◌∙◌}
use mathlib.Core.List.{List, [], ◌∷◌, ◌++◌}
use lib.IntN.{ℤ, pos, ◌+ℤ◌, +ℤ_idr}
use Prim.Native.Nat.{suc, ℕ, zero, ◌*◌, ◌+◌, ◌≤◌, ◌<◌}
use lib.ListN.{length, replicate, get_or, set}
use lib.Dec.{lit≤, lit<}
use native.Mathlib.Omega.{arith}
use mir.Syntax.{w32}
use mir.Val.{SFits, to_z, of_z}
use native.Mathlib.Nat.{suc-ne-zero, add-zero, zero-add, suc_inj, not-suc-le-zero, le_of_suc-le-suc}
use Rattle.voice.specs.Internal.Sums.{add_to, Small, loudest, add_at}
use Rattle.arith.proofs.WithinLaws.{w-nat, w_le, w-add, w_fits, w-back}
use Rattle.arith.specs.Within.{Within}

-- no numbers change nothing
pub add_to-none : (ys : List ℤ) → add_to [] ys ≡ ys
unfolding add_to
add_to-none ys = refl

-- there are as many sums as before
pub add_to-length : (xs ys : List ℤ) → length (add_to xs ys) ≡ length ys
unfolding add_to
add_to-length [] ys = refl
add_to-length (x ∷ xs) [] = refl
add_to-length (x ∷ xs) (y ∷ ys) = ap suc (add_to-length xs ys)

-- two zeros behind the numbers that are added change nothing
pub add_nothing : (xs ys : List ℤ) → add_to (xs ++ (pos 0 ∷ pos 0 ∷ [])) ys ≡ add_to xs ys
unfolding add_to
add_nothing [] [] = refl
add_nothing [] (y ∷ []) = ap (λ (z : ℤ). z ∷ []) (+ℤ_idr y)
add_nothing [] (y ∷ z ∷ ys) = ap₂ (λ (a b : ℤ). a ∷ b ∷ ys) (+ℤ_idr y) (+ℤ_idr z)
add_nothing (x ∷ xs) [] = refl
add_nothing (x ∷ xs) (y ∷ ys) = ap (◌∷◌ (y +ℤ x)) (add_nothing xs ys)

-- no numbers
pub small-none : Small 1 []
small-none j = w-nat (lit≤ tt)

-- sums of zeros
pub zeros-small : (n : ℕ) → Small 0 (replicate n (pos 0))
zeros-small zero j = w-nat (lit≤ tt)
zeros-small (suc n) zero = w-nat (lit≤ tt)
zeros-small (suc n) (suc j) = zeros-small n j

-- a frame's two numbers more
pub small-two : (xs : List ℤ) (a b : ℤ) → Small 1 xs → Within a (1 * loudest) → Within b (1 * loudest) → Small 1 (xs ++ (a ∷ b ∷ []))
small-two [] a b h p q zero = p
small-two [] a b h p q (suc zero) = q
small-two [] a b h p q (suc (suc j)) = w-nat (lit≤ tt)
small-two (x ∷ xs) a b h p q zero = h zero
small-two (x ∷ xs) a b h p q (suc j) = small-two xs a b (λ i. h (suc i)) p q j

-- numbers and more numbers
pub small-append : (xs zs : List ℤ) → Small 1 xs → Small 1 zs → Small 1 (xs ++ zs)
small-append [] zs h k j = k j
small-append (x ∷ xs) zs h k zero = h zero
small-append (x ∷ xs) zs h k (suc j) = small-append xs zs (λ i. h (suc i)) k j

-- one voice more
pub add_to-small : (xs ys : List ℤ) (b : ℕ) → Small 1 xs → Small b ys → Small (b + 1) (add_to xs ys)
unfolding add_to
add_to-small [] ys b h k j = w_le (k j) (omega arith)
add_to-small (x ∷ xs) [] b h k j = w-nat (omega arith)
add_to-small (x ∷ xs) (y ∷ ys) b h k zero = w_le (w-add (k zero) (h zero)) (omega arith)
add_to-small (x ∷ xs) (y ∷ ys) b h k (suc j) = add_to-small xs ys b (λ m. h (suc m)) (λ m. k (suc m)) j

-- 32 voices' sum fits 32 bits
pub add-bits : (a z : ℤ) → Within a (31 * loudest) → Within z (1 * loudest)
    → (to_z w32 (of_z w32 a) +ℤ to_z w32 (of_z w32 z) ≡ a +ℤ z) × SFits w32 (a +ℤ z) × (to_z w32 (of_z w32 (a +ℤ z)) ≡ a +ℤ z)
add-bits a z p q =
    let one = w-back w32 p (lit< tt) in
    let two = w-back w32 q (lit< tt) in
    (rw (one, two), w_fits w32 (w-add p q) (lit< tt), w-back w32 (w-add p q) (lit< tt))

-- numbers added behind those that are added
pub add-after : (k n : ℕ) (xs zs ys : List ℤ) → n ≡ k + length xs → add_at n zs (add_at k xs ys) ≡ add_at k (xs ++ zs) ys
unfolding add_at add_to
add-after zero zero [] zs ys e = refl
add-after zero (suc n) [] zs ys e = absurd (suc-ne-zero n (e ∙ add-zero 0))
add-after zero zero (x ∷ xs) zs ys e = absurd (suc-ne-zero _ (sym (e ∙ zero-add _)))
add-after zero (suc n) (x ∷ xs) zs [] e = refl
add-after zero (suc n) (x ∷ xs) zs (y ∷ ys) e = ap (◌∷◌ (y +ℤ x)) (add-after zero n xs zs ys (omega arith))
add-after (suc k) zero xs zs ys e = absurd (no (length xs) e)
  where
    no : (n : ℕ) → zero ≡ suc k + n → ⊥
    no n e = omega arith
add-after (suc k) (suc n) xs zs [] e = refl
add-after (suc k) (suc n) xs zs (y ∷ ys) e = ap (◌∷◌ y) (add-after k n xs zs ys (omega arith))

-- the same where the first are added from the start
pub add-next : (xs zs ys : List ℤ) (n : ℕ) → length xs ≡ n → add_at n zs (add_to xs ys) ≡ add_to (xs ++ zs) ys
unfolding add_at
add-next xs zs ys n e = add-after 0 n xs zs ys (omega arith)

-- what stands behind stays
pub add-beyond : (k : ℕ) (xs ys : List ℤ) (j : ℕ) → k + length xs ≤ j → get_or (add_at k xs ys) j (pos 0) ≡ get_or ys j (pos 0)
unfolding add_at add_to
add-beyond zero [] ys j h = refl
add-beyond zero (x ∷ xs) [] j h = refl
add-beyond zero (x ∷ xs) (y ∷ ys) zero h = absurd (no (length xs) h)
  where
    no : (n : ℕ) → zero + suc n ≤ 0 → ⊥
    no n e = omega arith
add-beyond zero (x ∷ xs) (y ∷ ys) (suc j) h = add-beyond zero xs ys j (omega arith)
add-beyond (suc k) xs [] j h = refl
add-beyond (suc k) xs (y ∷ ys) zero h = absurd (no (length xs) h)
  where
    no : (n : ℕ) → suc k + n ≤ 0 → ⊥
    no n e = omega arith
add-beyond (suc k) xs (y ∷ ys) (suc j) h = add-beyond k xs ys j (omega arith)

-- the same from the start
pub to-beyond : (xs ys : List ℤ) (j : ℕ) → length xs ≤ j → get_or (add_to xs ys) j (pos 0) ≡ get_or ys j (pos 0)
unfolding add_at
to-beyond xs ys j h = add-beyond 0 xs ys j (omega arith)

-- there are as many sums as before
pub add_at-length : (k : ℕ) (xs ys : List ℤ) → length (add_at k xs ys) ≡ length ys
unfolding add_at
add_at-length zero xs ys = add_to-length xs ys
add_at-length (suc k) xs [] = refl
add_at-length (suc k) xs (y ∷ ys) = ap suc (add_at-length k xs ys)

-- no numbers change nothing
pub add_at-none : (k : ℕ) (ys : List ℤ) → add_at k [] ys ≡ ys
unfolding add_at add_to
add_at-none zero ys = refl
add_at-none (suc k) [] = refl
add_at-none (suc k) (y ∷ ys) = ap (◌∷◌ y) (add_at-none k ys)

-- a frame's two stores
pub pair-at : (i m : ℕ) (a b : ℤ) (ys : List ℤ) → m ≡ suc i → m < length ys
    → set (set ys i (get_or ys i (pos 0) +ℤ a)) m (get_or ys m (pos 0) +ℤ b) ≡ add_at i (a ∷ b ∷ []) ys
unfolding add_at add_to
pair-at i zero a b ys e h = absurd (suc-ne-zero i (sym e))
pair-at i (suc m) a b [] e h = absurd (not-suc-le-zero h)
pair-at zero (suc zero) a b (y ∷ []) e h = absurd (not-suc-le-zero (le_of_suc-le-suc h))
pair-at zero (suc zero) a b (y ∷ z ∷ ys) e h = refl
pair-at zero (suc (suc m)) a b (y ∷ ys) e h = absurd (suc-ne-zero m (suc_inj e))
pair-at (suc i) (suc m) a b (y ∷ ys) e h = ap (◌∷◌ y) (pair-at i m a b ys (suc_inj e) (le_of_suc-le-suc h))
