-- A share by a product and a shift is 01's floor, for every number of a voice.
use Prim.Native.Nat.{ℕ, zero, suc, ◌+◌, ◌*◌, ◌-◌, ◌/◌, ◌<◌, ◌≤◌}
use mathlib.Core.Path.{◌≡◌, refl, ap, sym, ◌∙◌}
use native.Mathlib.Omega.{arith}
use native.Mathlib.Nat.{mul-add, mul-zero, mul_assoc, mul_comm, mul-le-mul_left}
use lib.IntN.{ℤ, pos, negsuc, nat_abs, neg_ℤ, ◌+ℤ◌, ◌-ℤ◌, ◌*ℤ◌}
use lib.Signed.{non_neg}
use lib.Dec.{T}
use Rattle.arith.specs.Floors.{floor_z}
use Rattle.arith.specs.Within.{Within}
use Rattle.arith.proofs.FloorsLaws.{sub-pos, sub-neg, neg-suc}
use Rattle.arith.proofs.HoldsLaws.{held-within}
use Rattle.voice.specs.Internal.Sides.{share, part, left_out, right_out}
use Rattle.voice.specs.Sound.{pan_of, left_of, right_of}

-- what 1,000 shares are more than k·2^38
abbrev excess : ℕ → ℕ
excess k = 1000 * share k - k * 274877906944

-- it is less than 1,000
excess_lt : (k : ℕ) → excess k ≤ 999
excess_lt k = omega arith

-- a product with a share
product : (n k : ℕ) → 1000 * (n * share k) ≡ n * k * 274877906944 + n * excess k
product n k =
    sym (mul_assoc 1000 n (share k))
    ∙ ap (λ (x : ℕ). x * share k) (mul_comm 1000 n)
    ∙ mul_assoc n 1000 (share k)
    ∙ ap (λ (x : ℕ). n * x) (whole k)
    ∙ mul-add n (k * 274877906944) (excess k)
    ∙ ap (λ (x : ℕ). x + n * excess k) (sym (mul_assoc n k 274877906944))
  where
    whole : (k : ℕ) → 1000 * share k ≡ k * 274877906944 + excess k
    whole k = omega arith

-- what is too much in it
small : (n k : ℕ) → n ≤ 16777216 → n * excess k ≤ 16760438784
small n k h = omega (arith, mul-le-mul_left n (excess_lt k))

-- at or above 0
above : (n k : ℕ) → n ≤ 16777216 → (n * share k + 16777216) / 274877906944 ≡ n * k / 1000
above n k h = by (n * share k) (n * k) (n * excess k) (product n k) (small n k h)
  where
    by : (a b d : ℕ) → 1000 * a ≡ b * 274877906944 + d → d ≤ 16760438784 → (a + 16777216) / 274877906944 ≡ b / 1000
    by a b d e h = omega arith

-- below 0: the product is past the offset, and one less than both is divided
past : (n k : ℕ) → 0 < n * k → 16777216 < n * share k
past n k h = by (n * share k) (n * k) (n * excess k) (product n k) h
  where
    by : (a b d : ℕ) → 1000 * a ≡ b * 274877906944 + d → 0 < b → 16777216 < a
    by a b d e h = omega arith

below : (n k : ℕ) → n ≤ 16777216 → 0 < n * k → (n * share k - 16777217) / 274877906944 ≡ (n * k - 1) / 1000
below n k h p = by (n * share k) (n * k) (n * excess k) (product n k) (small n k h) p
  where
    by : (a b d : ℕ) → 1000 * a ≡ b * 274877906944 + d → d ≤ 16760438784 → 0 < b → (a - 16777217) / 274877906944 ≡ (b - 1) / 1000
    by a b d e h p = omega arith

-- -a and an offset below it
offset : (a c : ℕ) → c < a → neg_ℤ (pos a) +ℤ pos c ≡ negsuc (a - suc c)
offset a c h = ap (λ (z : ℤ). z +ℤ pos c) (neg-suc a (omega arith)) ∙ sub-neg c (suc (a - 1)) (omega arith) ∙ ap negsuc (by a c h)
  where
    by : (a c : ℕ) → c < a → suc (a - 1) - suc c ≡ a - suc c
    by a c h = omega arith

-- k thousandths of u
pub part-is : (u : ℤ) (k : ℕ) → Within u 16777216 → part u (share k) ≡ floor_z (u *ℤ pos k) 1000
unfolding part
part-is (pos n) k h = ap pos (above n k h.within)
part-is (negsuc n) zero h = rw (mul-zero (suc n)) refl
part-is (negsuc n) (suc j) h =
    let k = suc j in
    let m = suc n in
    let some : 0 < m * k = omega arith in
    ap (λ (z : ℤ). floor_z z 274877906944) (offset (m * share k) 16777216 (past m k some))
    ∙ ap negsuc (below m k h.within some)
    ∙ sym (ap (λ (z : ℤ). floor_z z 1000) (neg-suc (m * k) some))

-- a number that is not below 0 is its magnitude
upward : (z : ℤ) → T (non_neg z) → pos (nat_abs z) ≡ z
upward (pos n) t = refl
upward (negsuc _) t = elim t [ ]

-- 500 thousandths and a pan are not below 0
pub left_up : (q : ℤ) → Within q 500 → T (non_neg (pos 500 -ℤ q))
left_up (pos zero) w = tt
left_up (pos (suc n)) w = rw (sub-pos 500 (suc n) w.within) tt
left_up (negsuc n) w = tt

pub right-up : (q : ℤ) → Within q 500 → T (non_neg (pos 500 +ℤ q))
right-up (pos n) w = tt
right-up (negsuc n) w = rw (sub-pos 500 (suc n) w.within) tt

-- the left share
pub part_left : (u p : ℤ) → Within u 16777216 → part u (share (left_out p)) ≡ left_of u p
unfolding left_of
part_left u p h = part-is u (left_out p) h ∙ ap (λ (z : ℤ). floor_z (u *ℤ z) 1000) (upward (pos 500 -ℤ pan_of p) (left_up (pan_of p) (held-within p 499)))

-- the right share
pub part_right : (u p : ℤ) → Within u 16777216 → part u (share (right_out p)) ≡ right_of u p
unfolding right_of
part_right u p h = part-is u (right_out p) h ∙ ap (λ (z : ℤ). floor_z (u *ℤ z) 1000) (upward (pos 500 +ℤ pan_of p) (right-up (pan_of p) (held-within p 499)))
