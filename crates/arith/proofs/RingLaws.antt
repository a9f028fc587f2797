-- Products of whole numbers: they are additive, and two natural factors are one.
use mathlib.Core.Path.{◌≡◌, ap, ap₂, sym, ◌∙◌}
use Prim.Native.Nat.{ℕ, zero, suc, ◌+◌, ◌*◌}
use native.Mathlib.Nat.{add-zero, add-suc, mul-zero, mul-suc}
use lib.IntN.{ℤ, pos, negsuc, neg_ℤ, ◌+ℤ◌, ◌*ℤ◌, +ℤ_assoc, +ℤ_comm, +ℤ_idr, *ℤ-zero, *ℤ-negsuc, *ℤ_comm, suc_ℤ-*ℤ, neg_ℤ-+ℤ, neg_ℤ-neg_ℤ}

-- the two in the middle change places
pub swap : (a b c d : ℤ) → (a +ℤ b) +ℤ (c +ℤ d) ≡ (a +ℤ c) +ℤ (b +ℤ d)
swap a b c d =
    +ℤ_assoc a b (c +ℤ d)
    ∙ ap (λ (x : ℤ). a +ℤ x) (sym (+ℤ_assoc b c d) ∙ ap (λ (x : ℤ). x +ℤ d) (+ℤ_comm b c) ∙ +ℤ_assoc c b d)
    ∙ sym (+ℤ_assoc a c (b +ℤ d))

-- once more
pub mul_next : (a : ℤ) (k : ℕ) → a *ℤ pos (suc k) ≡ a *ℤ pos k +ℤ a
mul_next a k = *ℤ_comm a (pos (suc k)) ∙ suc_ℤ-*ℤ (pos k) a ∙ ap (λ (x : ℤ). x +ℤ a) (*ℤ_comm (pos k) a)

-- a sum times a natural number
add-nat : (a b : ℤ) (k : ℕ) → (a +ℤ b) *ℤ pos k ≡ a *ℤ pos k +ℤ b *ℤ pos k
add-nat a b zero = *ℤ-zero (a +ℤ b) ∙ sym (ap₂ (λ (x y : ℤ). x +ℤ y) (*ℤ-zero a) (*ℤ-zero b))
add-nat a b (suc k) =
    mul_next (a +ℤ b) k
    ∙ ap (λ (x : ℤ). x +ℤ (a +ℤ b)) (add-nat a b k)
    ∙ swap (a *ℤ pos k) (b *ℤ pos k) a b
    ∙ sym (ap₂ (λ (x y : ℤ). x +ℤ y) (mul_next a k) (mul_next b k))

-- a sum times a number
pub add-mul-Z : (a b c : ℤ) → (a +ℤ b) *ℤ c ≡ a *ℤ c +ℤ b *ℤ c
add-mul-Z a b (pos k) = add-nat a b k
add-mul-Z a b (negsuc k) =
    *ℤ-negsuc (a +ℤ b) k
    ∙ ap neg_ℤ (add-nat a b (suc k))
    ∙ neg_ℤ-+ℤ (a *ℤ pos (suc k)) (b *ℤ pos (suc k))
    ∙ sym (ap₂ (λ (x y : ℤ). x +ℤ y) (*ℤ-negsuc a k) (*ℤ-negsuc b k))

-- a number below 0 times a number
pub neg-mul-Z : (a c : ℤ) → neg_ℤ a *ℤ c ≡ neg_ℤ (a *ℤ c)
neg-mul-Z a c = *ℤ_comm (neg_ℤ a) c ∙ by a c ∙ ap neg_ℤ (*ℤ_comm c a)
  where
    by : (a c : ℤ) → c *ℤ neg_ℤ a ≡ neg_ℤ (c *ℤ a)
    by (pos zero) c = *ℤ-zero c ∙ ap neg_ℤ (sym (*ℤ-zero c))
    by (pos (suc n)) c = *ℤ-negsuc c n
    by (negsuc n) c = sym (ap neg_ℤ (*ℤ-negsuc c n) ∙ neg_ℤ-neg_ℤ (c *ℤ pos (suc n)))

-- a sum of natural numbers as a factor
mul-add-nat : (a : ℤ) (k m : ℕ) → a *ℤ pos (k + m) ≡ a *ℤ pos k +ℤ a *ℤ pos m
mul-add-nat a k zero =
    ap (λ (n : ℕ). a *ℤ pos n) (add-zero k) ∙ sym (ap (λ (x : ℤ). a *ℤ pos k +ℤ x) (*ℤ-zero a) ∙ +ℤ_idr (a *ℤ pos k))
mul-add-nat a k (suc m) =
    ap (λ (n : ℕ). a *ℤ pos n) (add-suc k m)
    ∙ mul_next a (k + m)
    ∙ ap (λ (x : ℤ). x +ℤ a) (mul-add-nat a k m)
    ∙ +ℤ_assoc (a *ℤ pos k) (a *ℤ pos m) a
    ∙ ap (λ (x : ℤ). a *ℤ pos k +ℤ x) (sym (mul_next a m))

-- two natural factors, one after the other
pub mul-mul-nat : (a : ℤ) (k m : ℕ) → a *ℤ pos k *ℤ pos m ≡ a *ℤ pos (k * m)
mul-mul-nat a k zero = *ℤ-zero (a *ℤ pos k) ∙ sym (ap (λ (n : ℕ). a *ℤ pos n) (mul-zero k) ∙ *ℤ-zero a)
mul-mul-nat a k (suc m) =
    mul_next (a *ℤ pos k) m
    ∙ ap (λ (x : ℤ). x +ℤ a *ℤ pos k) (mul-mul-nat a k m)
    ∙ sym (mul-add-nat a (k * m) k)
    ∙ sym (ap (λ (n : ℕ). a *ℤ pos n) (mul-suc k m))
