-- A bound on a root, carried through a product and a division, as k-th powers. The exponent is a variable, so no power is computed.
use mathlib.Core.Path.{◌≡◌, sym, ap, ap₂, ◌∙◌, subst₂}
use Prim.Native.Nat.{ℕ, zero, suc, ◌*◌, ◌^◌, ◌+◌, ◌/◌, ◌≤◌, ◌<◌}
use native.Mathlib.Nat.{mul-mul-mul_comm, pow-zero, pow-suc, mul-zero, mul-suc, le_trans, le_of_eq, lt_of_lt_of_le, mul-le-mul_right, mul-lt-mul_of_pos_right, pow-le-pow_left, one-le-pow, div-mul-le_self, lt-div-mul-add, add-mul, mul_assoc, mul_comm, le_of_mul-le-mul_right, lt_of_mul-lt-mul_right}
use lib.Pow.{pow-add, pow_pos}
use native.Mathlib.Omega.{arith}

pub mul-pow : (a b k : ℕ) → (a * b) ^ k ≡ a ^ k * b ^ k
mul-pow a b zero = rw (pow-zero (a * b), pow-zero a, pow-zero b)
mul-pow a b (suc k) =
    pow-suc (a * b) k ∙ ap (λ (x : ℕ). x * (a * b)) (mul-pow a b k) ∙ mul-mul-mul_comm (a ^ k) (b ^ k) a b
    ∙ sym (ap₂ (λ (x y : ℕ). x * y) (pow-suc a k) (pow-suc b k))

-- (2 ^ e) ^ k
pub pow-pow : (a e k : ℕ) → (a ^ e) ^ k ≡ a ^ (e * k)
pow-pow a e zero = pow-zero (a ^ e) ∙ sym (pow-zero a) ∙ ap (λ (x : ℕ). a ^ x) (sym (mul-zero e))
pow-pow a e (suc k) =
    pow-suc (a ^ e) k ∙ ap (λ (x : ℕ). x * a ^ e) (pow-pow a e k) ∙ sym (pow-add a (e * k) e) ∙ ap (λ (x : ℕ). a ^ x) (sym (mul-suc e k))

-- t is the root of P to k, rounded down; s is t * r / d, rounded down. So s is at most 2 below (root of P) * r / d.
module _ (k t r d P : ℕ) (pos : 0 < d) where
  abbrev s : ℕ
  s = t * r / d

  pub low : t ^ k ≤ P → (s * d) ^ k ≤ P * r ^ k
  low g = le_trans (pow-le-pow_left (div-mul-le_self (t * r) d) k) (le_trans (le_of_eq (mul-pow t r k)) (mul-le-mul_right (r ^ k) g))

  near : r ≤ d → (t + 1) * r ≤ (s + 2) * d
  near h =
      let a : (t + 1) * r ≡ t * r + 1 * r = add-mul t 1 r in
      let b : (s + 2) * d ≡ s * d + 2 * d = add-mul s 2 d in
      omega (arith, lt-div-mul-add {a = t * r} pos)

  pub high : r ≤ d → 0 < r → P < (t + 1) ^ k → P * r ^ k < ((s + 2) * d) ^ k
  high h p g =
      lt_of_lt_of_le (mul-lt-mul_of_pos_right g (one-le-pow k r p))
      (le_trans (le_of_eq (sym (mul-pow (t + 1) r k))) (pow-le-pow_left (near h) k))

-- a power of two goes out of both sides
module _ (k b e R r s : ℕ) where
  left_is : (s * (b * 2 ^ e)) ^ k ≡ (s * b) ^ k * 2 ^ (e * k)
  left_is = ap (λ (x : ℕ). x ^ k) (sym (mul_assoc s b (2 ^ e))) ∙ mul-pow (s * b) (2 ^ e) k ∙ ap (λ (x : ℕ). (s * b) ^ k * x) (pow-pow 2 e k)

  right_is : 2 ^ (e * k + R) * r ^ k ≡ 2 ^ R * r ^ k * 2 ^ (e * k)
  right_is = ap (λ (x : ℕ). x * r ^ k) (pow-add 2 (e * k) R) ∙ mul_assoc (2 ^ (e * k)) (2 ^ R) (r ^ k) ∙ mul_comm (2 ^ (e * k)) (2 ^ R * r ^ k)

  pub cancel-le : (s * (b * 2 ^ e)) ^ k ≤ 2 ^ (e * k + R) * r ^ k → (s * b) ^ k ≤ 2 ^ R * r ^ k
  cancel-le h = le_of_mul-le-mul_right (subst₂ (λ (x y : ℕ). x ≤ y) left_is right_is h) (pow_pos (e * k))

  pub cancel-lt : 2 ^ (e * k + R) * r ^ k < (s * (b * 2 ^ e)) ^ k → 2 ^ R * r ^ k < (s * b) ^ k
  cancel-lt h = lt_of_mul-lt-mul_right (2 ^ (e * k)) (subst₂ (λ (x y : ℕ). x < y) right_is left_is h)
