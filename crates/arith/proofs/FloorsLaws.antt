-- `floor_z z d` is the floor, and a number of times d stands outside it; an offset that makes a number positive.
use mathlib.Core.Path.{◌≡◌, ap, ◌∙◌, sym, subst, refl}
use mathlib.Core.Bool.{Bool, true, false, cond}
use Prim.Native.Nat.{ℕ, suc, ◌-◌, ◌≤◌, ◌<◌, ◌+◌, ◌*◌, ◌/◌, ◌%◌, zero}
use lib.IntN.{pos, negsuc, sub_ℕ, ℤ, ◌+ℤ◌, nat_abs, ◌-ℤ◌, +ℤ-neg_ℤ_cancel, -ℤ-+ℤ_cancel, neg_ℤ, ◌*ℤ◌, ℤ_ind, zero-*ℤ, suc_ℤ-*ℤ, +ℤ_idl, +ℤ_assoc, +ℤ_comm, +ℤ_one}
use borrow.Author.Tests.{le-ltb, lt-ltb, ltb-true, ltb-false}
use lib.Signed.{non_neg, ◌≤ℤ◌, lt_z, ◌<ℤ◌}
use lib.Dec.{T, ltb, le→leb, lt→ltb}
use native.Mathlib.Nat.{div-lt_iff_lt-mul, add-mul-div_right, div-mul-le_self, zero-mul, mul-pos, div-eq_of_lt}
use native.Mathlib.Omega.{arith}
use Rattle.arith.specs.Within.{Within}
use Rattle.arith.specs.Floors.{floor_z, mod_z}

-- a - b as a natural number, and as the number below 0
pub sub-pos : (a b : ℕ) → b ≤ a → sub_ℕ a b ≡ pos (a - b)
sub-pos a b h = ap (λ (t : Bool). cond t (negsuc (b - suc a)) (pos (a - b))) (le-ltb a b h)

pub sub-neg : (a b : ℕ) → a < b → sub_ℕ a b ≡ negsuc (b - suc a)
sub-neg a b h = ap (λ (t : Bool). cond t (negsuc (b - suc a)) (pos (a - b))) (lt-ltb a b h)

-- n more than a number within n is not below 0
pub bias-nonneg : (x : ℤ) (n : ℕ) → Within x n → T (non_neg (x +ℤ pos n))
bias-nonneg (pos a) n h = tt
bias-nonneg (negsuc a) n h = rw (sub-pos n (suc a) h.within) tt

-- -n where n is not 0
pub neg-suc : (n : ℕ) → 0 < n → neg_ℤ (pos n) ≡ negsuc (n - 1)
neg-suc zero h = absurd (no h)
  where
    no : 0 < 0 → ⊥
    no h = omega arith
neg-suc (suc n) h = ap negsuc (omega arith)

-- one more, below 0
up_one : (q : ℕ) → negsuc (suc q) +ℤ pos 1 ≡ negsuc q
up_one q = sub-neg 1 (suc (suc q)) (omega arith) ∙ ap negsuc (omega arith)

-- ---- `floor_z` is the floor: q = floor_z z d is the number with q * d <= z < (q + 1) * d
pub floor-low : (z : ℤ) (d : ℕ) → 0 < d → (floor_z z d *ℤ pos d) ≤ℤ z
floor-low (pos a) d p = record { le = le→leb (a / d * d) a (div-mul-le_self a d) }
floor-low (negsuc a) d p =
    let x = suc (a / d) * d in
    let big : a < x = (div-lt_iff_lt-mul p).0 (omega arith) in
    subst (λ (y : ℤ). y ≤ℤ (negsuc a)) (sym (neg-suc x (omega arith))) (record { le = le→leb a (x - 1) (omega arith) })

pub floor-high : (z : ℤ) (d : ℕ) → 0 < d → z <ℤ ((floor_z z d +ℤ pos 1) *ℤ pos d)
floor-high (pos a) d p = record { lt = lt→ltb a ((a / d + 1) * d) ((div-lt_iff_lt-mul p).0 (omega arith)) }
floor-high (negsuc a) d p =
    let e : negsuc (a / d) +ℤ pos 1 ≡ neg_ℤ (pos (a / d)) = up (a / d) in
    subst (λ (y : ℤ). (negsuc a) <ℤ (y *ℤ pos d)) (sym e) (go (a / d) (div-mul-le_self a d))
  where
    up : (q : ℕ) → negsuc q +ℤ pos 1 ≡ neg_ℤ (pos q)
    up zero = refl
    up (suc q) = up_one q

    go : (q : ℕ) → q * d ≤ a → (negsuc a) <ℤ (neg_ℤ (pos q) *ℤ pos d)
    go zero h = record { lt = subst (λ (n : ℕ). T (lt_z (negsuc a) (pos n))) (sym (zero-mul d)) tt }
    go (suc q) h =
        let pos-x : 0 < suc q * d = mul-pos {m = suc q} {n = d} (omega arith) p in
        subst (λ (y : ℤ). (negsuc a) <ℤ y) (sym (neg-suc (suc q * d) pos-x)) (record { lt = lt→ltb (suc q * d - 1) a (omega arith) })

-- a multiple of 4 added does not change the remainder
pub mod-lift : (x : ℤ) → Within x 32768 → nat_abs (x +ℤ pos 32768) % 4 ≡ mod_z x 4
unfolding mod_z
mod-lift (pos a) h = omega arith
mod-lift (negsuc a) h = rw (sub-pos 32768 (suc a) h.within) (omega (arith, h.within))

-- ---- a whole number of times more
-- d more is one more
floor-up : (s : ℤ) (d : ℕ) → 0 < d → floor_z (s +ℤ pos d) d ≡ floor_z s d +ℤ pos 1
floor-up (pos a) d p = ap pos (ap (λ (n : ℕ). n / d) (one-d a d) ∙ add-mul-div_right a 1 p)
  where
    one-d : (a d : ℕ) → a + d ≡ a + 1 * d
    one-d a d = omega arith
floor-up (negsuc a) d p = by (ltb a d) refl
  where
    near : a < d → floor_z (negsuc a +ℤ pos d) d ≡ negsuc (a / d) +ℤ pos 1
    near l =
        ap (λ (z : ℤ). floor_z z d) (sub-pos d (suc a) (omega arith))
        ∙ ap pos (div-eq_of_lt (small a d l))
        ∙ sym (ap (λ (q : ℕ). negsuc q +ℤ pos 1) (div-eq_of_lt l))
      where
        small : (a d : ℕ) → a < d → d - suc a < d
        small a d l = omega arith

    far : d ≤ a → floor_z (negsuc a +ℤ pos d) d ≡ negsuc (a / d) +ℤ pos 1
    far g =
        ap (λ (z : ℤ). floor_z z d) (sub-neg d (suc a) (omega arith) ∙ ap negsuc (shift a d g))
        ∙ sym (up_one ((a - d) / d))
        ∙ sym (ap (λ (q : ℕ). negsuc q +ℤ pos 1) (ap (λ (n : ℕ). n / d) (split a d g) ∙ add-mul-div_right (a - d) 1 p ∙ plus_one ((a - d) / d)))
      where
        shift : (a d : ℕ) → d ≤ a → suc a - suc d ≡ a - d
        shift a d g = omega arith

        split : (a d : ℕ) → d ≤ a → a ≡ a - d + 1 * d
        split a d g = omega arith

        plus_one : (q : ℕ) → q + 1 ≡ suc q
        plus_one q = omega arith

    by : (t : Bool) → ltb a d ≡ t → floor_z (negsuc a +ℤ pos d) d ≡ negsuc (a / d) +ℤ pos 1
    by true e = near (ltb-true a d e)
    by false e = far (ltb-false a d e)

-- a number of times d stands outside
pub floor-add : (z r : ℤ) (d : ℕ) → 0 < d → floor_z (z *ℤ pos d +ℤ r) d ≡ z +ℤ floor_z r d
floor-add z r d p =
    ℤ_ind (λ (z : ℤ). floor_z (z *ℤ pos d +ℤ r) d ≡ z +ℤ floor_z r d)
    (ap (λ (x : ℤ). floor_z x d) (ap (λ (x : ℤ). x +ℤ r) (zero-*ℤ (pos d)) ∙ +ℤ_idl r) ∙ sym (+ℤ_idl (floor_z r d)))
    (λ n h. more (pos n) h)
    (λ n h. less (neg_ℤ (pos n)) h)
    z
  where
    times : (z : ℤ) → (z +ℤ pos 1) *ℤ pos d +ℤ r ≡ z *ℤ pos d +ℤ r +ℤ pos d
    times z =
        ap (λ (x : ℤ). x *ℤ pos d +ℤ r) (+ℤ_one z)
        ∙ ap (λ (x : ℤ). x +ℤ r) (suc_ℤ-*ℤ z (pos d))
        ∙ +ℤ_assoc (z *ℤ pos d) (pos d) r
        ∙ ap (λ (x : ℤ). z *ℤ pos d +ℤ x) (+ℤ_comm (pos d) r)
        ∙ sym (+ℤ_assoc (z *ℤ pos d) r (pos d))

    beside : (z f : ℤ) → z +ℤ f +ℤ pos 1 ≡ z +ℤ pos 1 +ℤ f
    beside z f = +ℤ_assoc z f (pos 1) ∙ ap (λ (x : ℤ). z +ℤ x) (+ℤ_comm f (pos 1)) ∙ sym (+ℤ_assoc z (pos 1) f)

    more : (z : ℤ) → floor_z (z *ℤ pos d +ℤ r) d ≡ z +ℤ floor_z r d → floor_z ((z +ℤ pos 1) *ℤ pos d +ℤ r) d ≡ z +ℤ pos 1 +ℤ floor_z r d
    more z h =
        ap (λ (x : ℤ). floor_z x d) (times z)
        ∙ floor-up (z *ℤ pos d +ℤ r) d p
        ∙ ap (λ (x : ℤ). x +ℤ pos 1) h
        ∙ beside z (floor_z r d)

    less : (z : ℤ) → floor_z (z *ℤ pos d +ℤ r) d ≡ z +ℤ floor_z r d
        → floor_z ((z +ℤ neg_ℤ (pos 1)) *ℤ pos d +ℤ r) d ≡ z +ℤ neg_ℤ (pos 1) +ℤ floor_z r d
    less z h =
        let y = z +ℤ neg_ℤ (pos 1) in
        let b : y +ℤ pos 1 ≡ z = -ℤ-+ℤ_cancel z (pos 1) in
        let up : floor_z (y *ℤ pos d +ℤ r) d +ℤ pos 1 ≡ z +ℤ floor_z r d =
        sym (floor-up (y *ℤ pos d +ℤ r) d p)
        ∙ ap (λ (x : ℤ). floor_z x d) (sym (times y))
        ∙ ap (λ (x : ℤ). floor_z (x *ℤ pos d +ℤ r) d) b
        ∙ h in
        sym (+ℤ-neg_ℤ_cancel (floor_z (y *ℤ pos d +ℤ r) d) (pos 1))
        ∙ ap (λ (x : ℤ). x -ℤ pos 1) (up ∙ ap (λ (x : ℤ). x +ℤ floor_z r d) (sym b) ∙ sym (beside y (floor_z r d)))
        ∙ +ℤ-neg_ℤ_cancel (y +ℤ floor_z r d) (pos 1)
