-- An output number by the bits of its binary32: the tests and the digits of `Internal.Pcm` are those of its value.
use mathlib.Core.Path.{◌≡◌, refl, sym, ap, ap₂, ◌∙◌, subst}
use mathlib.Core.Bool.{Bool, true, false, not, ◌&&◌, cond, and-false, and-true, true≢false}
use mathlib.Core.Logic.{◌⊎◌, inl, inr}
use Prim.Native.Nat.{ℕ, zero, suc, ◌+◌, ◌-◌, ◌*◌, ◌/◌, ◌%◌, ◌^◌, ◌≤◌, ◌<◌}
use native.Mathlib.Nat.{div-mul-le_self, lt_of_le_of_lt, eq-or-lt_of_le, eq-zero-or-pos, le_of_suc-le-suc, div-add-mod', eq_of_mul-eq-mul_right, le_of_eq, le_of_mul-le-mul_right, le_trans, lt_irrefl, lt_of_lt_of_le, mod-eq_of_lt, mul_assoc, mul_comm, mul-div-mul_right, mul-le-mul_left, mul-le-mul_right, mul-mod_left, mul-pos, mul_right_comm}
use native.Mathlib.Omega.{arith}
use borrow.Author.Tests.{eqb-true}
use lib.Dec.{T, T_not, eqb, eqb→eq, leb, leb→le, le→leb, ltb, ltb→lt, nltb→le, not_T, lit<, lit≤}
use lib.IntN.{ℤ, pos, neg_ℤ}
use lib.Pow.{pow-add, pow_mono, pow_pos, shl_lt, shl-shr, shr_mono}
use lib.Arith.{lt→nleb}
use lib.Ieee.{Float, nan, inf, fin, binary32, up, down, odd, of_fields, of_bits, to_bits, fits, is_nan}
use lib.Ieee.Bits.{is_true, is_false, of_bits-to_bits}
use lib.Ieee.Exact.{HasValue, odd_sign}
use lib.Ieee.Fits.{down_pos, eq→eqb}
use lib.Ieee.Nearest.{div_same}
use Rattle.arith.specs.Floors.{mod_z}
use Rattle.wave.specs.Pcm.{is_output, k_of, pcm_of, pcm_of_k}
use Rattle.wave.specs.Internal.Pcm.{digits_of, is_output_bits, k_bits, tail_of, word_of}

-- two tests that say the same are one
same_test : (a b : Bool) → (T a → T b) → (T b → T a) → a ≡ b
same_test true true p q = refl
same_test true false p q = absurd (p tt)
same_test false true p q = absurd (q tt)
same_test false false p q = refl

-- both tests of a conjunction
pub both : (a b : Bool) → (a && b) ≡ true → (a ≡ true) × (b ≡ true)
both true b h = (refl, h)
both false b h = absurd (subst T (sym h) tt)

-- u / d and a / c are one fraction: where K times the one is whole, K times the other is
whole-too : (u d a c K : ℕ) → 0 < d → u * c ≡ a * d → u * K % d ≡ 0 → a * K % c ≡ 0
whole-too u d a c K D e h =
    let q = u * K / d in
    let x : u * K ≡ q * d = (omega (arith, h, div-add-mod' (u * K) d)) in
    let y : q * c * d ≡ a * K * d =
    mul_right_comm q c d ∙ ap (λ (z : ℕ). z * c) (sym x) ∙ mul_right_comm u K c ∙ ap (λ (z : ℕ). z * K) e ∙ mul_right_comm a d K in
    ap (λ (z : ℕ). z % c) (sym (eq_of_mul-eq-mul_right d D (q * c) (a * K) y)) ∙ mul-mod_left q c

same_whole : (u d a c K : ℕ) → 0 < d → 0 < c → u * c ≡ a * d → eqb (u * K % d) 0 ≡ eqb (a * K % c) 0
same_whole u d a c K D C e =
    same_test (eqb (u * K % d) 0) (eqb (a * K % c) 0)
    (λ t. eq→eqb (whole-too u d a c K D e (eqb→eq (u * K % d) 0 t)))
    (λ t. eq→eqb (whole-too a c u d K C (sym e) (eqb→eq (a * K % c) 0 t)))

below-too : (u d a c : ℕ) → 0 < d → u * c ≡ a * d → u ≤ d → a ≤ c
below-too u d a c D e h = le_of_mul-le-mul_right (le_trans (le_of_eq (sym e)) (le_trans (mul-le-mul_right c h) (le_of_eq (mul_comm d c)))) D

same-below : (u d a c : ℕ) → 0 < d → 0 < c → u * c ≡ a * d → leb u d ≡ leb a c
same-below u d a c D C e =
    same_test (leb u d) (leb a c)
    (λ t. le→leb a c (below-too u d a c D e (leb→le u d t)))
    (λ t. le→leb u d (below-too a c u d C (sym e) (leb→le a c t)))

-- k / 2^23 with a sign
abbrev pub signed_of : Bool → ℕ → ℤ
signed_of s k = cond s (neg_ℤ (pos k)) (pos k)

-- whether a finite number is an output number turns on its value alone
pub output-value : (x : Float) (s : Bool) (a c : ℕ) → 0 < c → HasValue x s a c → is_output x ≡ (eqb (a * 8388608 % c) 0 && leb a c)
unfolding is_output
output-value nan s a c C h = absurd h
output-value (inf t) s a c C h = absurd h
output-value (fin t m e) s a c C h =
    ap₂ ◌&&◌ (same_whole (m * up e) (down e) a c 8388608 (down_pos e) C h.1) (same-below (m * up e) (down e) a c (down_pos e) C h.1)

scaled-cross : (u d a c K : ℕ) → u * c ≡ a * d → u * K * c ≡ a * K * d
scaled-cross u d a c K e = mul_right_comm u K c ∙ ap (λ (z : ℕ). z * K) e ∙ mul_right_comm a d K

-- and so does its k
pub k-value : (x : Float) (s : Bool) (a c : ℕ) → 0 < c → HasValue x s a c → k_of x ≡ signed_of s (a * 8388608 / c)
unfolding k_of
k-value nan s a c C h = absurd h
k-value (inf t) s a c C h = absurd h
k-value (fin t m e) s a c C h =
    ap₂ signed_of h.0 (div_same (m * up e * 8388608) (down e) (a * 8388608) c (down_pos e) C (scaled-cross (m * up e) (down e) a c 8388608 h.1))

-- ---- by fields: the size's bits are a field f and 23 digits t

-- the same number as another fraction
pub rescaled : (x : Float) (s : Bool) (a c b d : ℕ) → 0 < c → a * d ≡ b * c → HasValue x s a c → HasValue x s b d
rescaled nan s a c b d C e v = v
rescaled (inf t) s a c b d C e v = v
rescaled (fin t m x) s a c b d C e v = (
  v.0,
  eq_of_mul-eq-mul_right c C (m * up x * d) (b * down x)
      (mul_right_comm (m * up x) d c
      ∙ ap (λ (z : ℕ). z * d) v.1
      ∙ mul_right_comm a (down x) d
      ∙ ap (λ (z : ℕ). z * down x) e
      ∙ mul_right_comm b c (down x)),
)

-- a field from 1 to 254 stands for (2^23 + t) * 2^(f - 150)
field-value : (s : Bool) (x t : ℕ) → suc x < 255 → HasValue (of_fields binary32 s (suc x) t) s ((8388608 + t) * 2 ^ x) (2 ^ 149)
unfolding of_fields
field-value s x t h = go (eqb (suc x) 255) (λ q. lt_irrefl 255 (subst (λ (z : ℕ). z < 255) (eqb→eq (suc x) 255 q) h))
  where
    go : (b : Bool) → (T b → ⊥) → HasValue (cond b (cond (eqb t 0) (inf s) nan) (odd 24 s (8388608 + t) x 149)) s ((8388608 + t) * 2 ^ x) (2 ^ 149)
    go true n = absurd (n tt)
    go false n = odd_sign 24 s (8388608 + t) x 149

-- a field of 255 is an infinity or a NaN
full-field : (s : Bool) (t : ℕ) → is_output (of_fields binary32 s 255 t) ≡ false
unfolding of_fields is_output
full-field s t = go (eqb t 0)
  where
    go : (b : Bool) → is_output (cond b (inf s) nan) ≡ false
    go true = refl
    go false = refl

-- 2^149, cut at a field of at least 104
cut_at : (x r : ℕ) → x + r ≡ 126 → 2 ^ x * (2 ^ r * 8388608) ≡ 2 ^ 149
cut_at x r e = sym (mul_assoc (2 ^ x) (2 ^ r) (2 ^ 23)) ∙ ap (λ (z : ℕ). z * 2 ^ 23) (sym (pow-add 2 x r) ∙ ap (λ (z : ℕ). 2 ^ z) e) ∙ sym (pow-add 2 126 23)

-- such a number is its digits over 2^r * 2^23
tail-value : (s : Bool) (x r t : ℕ) → x + r ≡ 126 → HasValue (of_fields binary32 s (suc x) t) s (8388608 + t) (2 ^ r * 8388608)
tail-value s x r t e =
    rescaled (of_fields binary32 s (suc x) t) s ((8388608 + t) * 2 ^ x) (2 ^ 149) (8388608 + t) (2 ^ r * 8388608) (pow_pos 149)
    (mul_assoc (8388608 + t) (2 ^ x) (2 ^ r * 8388608) ∙ ap (λ (z : ℕ). (8388608 + t) * z) (cut_at x r e))
    (field-value s x t (omega (arith, e)))

-- of which k is the part in front of the tail
tail-k : (s : Bool) (x r t : ℕ) → x + r ≡ 126 → k_of (of_fields binary32 s (suc x) t) ≡ signed_of s ((8388608 + t) / 2 ^ r)
tail-k s x r t e =
    k-value (of_fields binary32 s (suc x) t) s (8388608 + t) (2 ^ r * 8388608) (mul-pos (pow_pos r) (lit< tt)) (tail-value s x r t e)
    ∙ ap (signed_of s) (mul-div-mul_right (8388608 + t) (2 ^ r) (lit< tt))

-- no tail: the quotient times the divisor is the number
no-tail : (n d : ℕ) → 0 < d → eqb (n * 8388608 % (d * 8388608)) 0 ≡ eqb (n / d * d) n
no-tail n d D =
    let q : n * 8388608 / (d * 8388608) ≡ n / d = mul-div-mul_right n d (lit< tt) in
    let whole : n / d * (d * 8388608) + n * 8388608 % (d * 8388608) ≡ n * 8388608 =
    ap (λ (z : ℕ). z * (d * 8388608) + n * 8388608 % (d * 8388608)) (sym q) ∙ div-add-mod' (n * 8388608) (d * 8388608) in
    let split : n / d * (d * 8388608) ≡ n / d * d * 8388608 = sym (mul_assoc (n / d) d 8388608) in
    same_test (eqb (n * 8388608 % (d * 8388608)) 0) (eqb (n / d * d) n)
    (λ t.
    let zero_rest : n * 8388608 % (d * 8388608) ≡ 0 = eqb→eq (n * 8388608 % (d * 8388608)) 0 t in
    eq→eqb {a = n / d * d} {b = n} (omega (arith, whole, split, zero_rest)))
    (λ t.
    let exact : n / d * d ≡ n = eqb→eq (n / d * d) n t in
    eq→eqb {a = n * 8388608 % (d * 8388608)} {b = 0} (omega (arith, whole, split, exact)))

tail-output : (s : Bool) (x r t : ℕ) → x + r ≡ 126 → 8388608 + t ≤ 2 ^ r * 8388608
    → is_output (of_fields binary32 s (suc x) t) ≡ eqb ((8388608 + t) / 2 ^ r * 2 ^ r) (8388608 + t)
tail-output s x r t e h =
    output-value (of_fields binary32 s (suc x) t) s (8388608 + t) (2 ^ r * 8388608) (mul-pos (pow_pos r) (lit< tt)) (tail-value s x r t e)
    ∙ ap₂ ◌&&◌ (no-tail (8388608 + t) (2 ^ r) (pow_pos r)) (is_true (leb (8388608 + t) (2 ^ r * 8388608)) (le→leb (8388608 + t) (2 ^ r * 8388608) h))
    ∙ and-true (eqb ((8388608 + t) / 2 ^ r * 2 ^ r) (8388608 + t))

-- above 0 and below 2^-23
too_fine : (x : Float) (s : Bool) (a : ℕ) → HasValue x s a (2 ^ 149) → 0 < a → a * 8388608 < 2 ^ 149 → is_output x ≡ false
too_fine x s a v p h =
    output-value x s a (2 ^ 149) (pow_pos 149) v
    ∙ ap (λ (b : Bool). b && leb a (2 ^ 149)) (ap (λ (z : ℕ). eqb z 0) (mod-eq_of_lt h) ∙ is_false (eqb (a * 8388608) 0) (not_T (eqb (a * 8388608) 0) (λ t. some (eqb→eq (a * 8388608) 0 t))))
  where
    some : a * 8388608 ≡ 0 → ⊥
    some e = omega (arith, p, e)

-- above 1
too-loud : (x : Float) (s : Bool) (a : ℕ) → HasValue x s a (2 ^ 149) → 2 ^ 149 < a → is_output x ≡ false
too-loud x s a v h =
    output-value x s a (2 ^ 149) (pow_pos 149) v
    ∙ ap (λ (b : Bool). eqb (a * 8388608 % 2 ^ 149) 0 && b) (is_false (leb a (2 ^ 149)) (lt→nleb a (2 ^ 149) h))
    ∙ and-false (eqb (a * 8388608 % 2 ^ 149) 0)

-- ---- the tests of `is_output_bits`, one after the other; f is the field and t the digits

by-test : (b x y z : Bool) → (T b → x ≡ y) → (T (not b) → x ≡ z) → x ≡ cond b y z
by-test true x y z p q = p tt
by-test false x y z p q = q tt

loud-bits : (s : Bool) (f t : ℕ) → f < 256 → t < 8388608 → 1065353216 < f * 8388608 + t → is_output (of_fields binary32 s f t) ≡ false
loud-bits s zero t F L h = absurd (lt_irrefl t (omega (arith, L, h)))
loud-bits s (suc x) t F L h = go (eq-or-lt_of_le (le_of_suc-le-suc F))
  where
    more : 126 ≤ x → 2 ^ 149 < (8388608 + t) * 2 ^ x
    more l = elim (eq-or-lt_of_le l) [
      | inl e ↦
          subst (λ (z : ℕ). 2 ^ 149 < (8388608 + t) * 2 ^ z) e
          (lt_of_lt_of_le (lit< {m = 2 ^ 149} {n = 8388609 * 2 ^ 126} tt) (mul-le-mul_right {m = 8388609} {n = 8388608 + t} (2 ^ 126) (omega (arith, h, e))))
      | inr m ↦
          lt_of_lt_of_le (lit< {m = 2 ^ 149} {n = 8388608 * 2 ^ 127} tt)
          (le_trans (mul-le-mul_left 8388608 (pow_mono {i = 127} {j = x} m)) (mul-le-mul_right {m = 8388608} {n = 8388608 + t} (2 ^ x) (omega arith)))
    ]

    go : (suc x ≡ 255) ⊎ (suc x < 255) → is_output (of_fields binary32 s (suc x) t) ≡ false
    go (inl e) = subst (λ (f : ℕ). is_output (of_fields binary32 s f t) ≡ false) (sym e) (full-field s t)
    go (inr l) =
        too-loud (of_fields binary32 s (suc x) t) s ((8388608 + t) * 2 ^ x) (field-value s x t l) (more (omega (arith, h, L)))

fine-bits : (s : Bool) (f t : ℕ) → f < 104 → t < 8388608 → 0 < f * 8388608 + t → is_output (of_fields binary32 s f t) ≡ false
unfolding of_fields
fine-bits s zero t F L h =
    too_fine (odd 24 s t 0 149) s (t * 1) (odd_sign 24 s t 0 149) (omega (arith, h))
    (lt_of_lt_of_le {m = 8388608 * 8388608} (omega (arith, L)) (lit≤ {m = 8388608 * 8388608} {n = 2 ^ 149} tt))
fine-bits s (suc x) t F L h =
    too_fine (of_fields binary32 s (suc x) t) s ((8388608 + t) * 2 ^ x) (field-value s x t (omega (arith, F))) (mul-pos {m = 8388608 + t} {n = 2 ^ x} (omega arith) (pow_pos x))
    (lt_of_lt_of_le (shl_lt (24 + x) 23 (shl_lt {a = 8388608 + t} 24 x (omega (arith, L)))) (pow_mono {i = 24 + x + 23} {j = 149} (omega (arith, F))))

-- the size is at most 1
in-range : (f t r : ℕ) → f + r ≡ 127 → t < 8388608 → f * 8388608 + t ≤ 1065353216 → 8388608 + t ≤ 2 ^ r * 8388608
in-range f t zero e L h = omega (arith, e, h)
in-range f t (suc r) e L h =
    le_trans {m = 2 * 8388608} (omega (arith, L)) (mul-le-mul_right {m = 2} {n = 2 ^ suc r} 8388608 (pow_mono {i = 1} {j = suc r} (omega arith)))

tail-bits : (s : Bool) (f t : ℕ) → 104 ≤ f → t < 8388608 → f * 8388608 + t ≤ 1065353216
    → (is_output (of_fields binary32 s f t) ≡ eqb ((8388608 + t) / 2 ^ (127 - f) * 2 ^ (127 - f)) (8388608 + t))
    × (k_of (of_fields binary32 s f t) ≡ signed_of s ((8388608 + t) / 2 ^ (127 - f)))
tail-bits s zero t F L h = absurd (lt_irrefl 0 (omega (arith, F)))
tail-bits s (suc x) t F L h =
    let whole : suc x + (127 - suc x) ≡ 127 = omega (arith, h) in
    let r = 127 - suc x in (
      tail-output s x r t (omega (arith, whole)) (in-range (suc x) t r whole L h),
      tail-k s x r t (omega (arith, whole)),
    )

-- the field of an output number's bits, which are not 0
output-field : (size : ℕ) → T (is_output_bits size) → eqb size 0 ≡ false → (104 ≤ size / 8388608) × (size ≤ 1065353216)
unfolding is_output_bits
output-field size h e =
    past (ltb 1065353216 size) (ltb (size / 8388608) 104) _ (nltb→le 1065353216 size) (nltb→le (size / 8388608) 104)
    (subst (λ (b : Bool). T (cond b true (cond (ltb 1065353216 size) false (cond (ltb (size / 8388608) 104) false (eqb (digits_of size / 2 ^ tail_of size * 2 ^ tail_of size) (digits_of size)))))) e h)
  where
    past : (a b d : Bool) → (T (not a) → size ≤ 1065353216) → (T (not b) → 104 ≤ size / 8388608)
        → T (cond a false (cond b false d)) → (104 ≤ size / 8388608) × (size ≤ 1065353216)
    past true b d p q t = absurd t
    past false true d p q t = absurd t
    past false false d p q t = (q tt, p tt)

module _ (s : Bool) (size : ℕ) (S : size < 2147483648) where
  abbrev field_of : ℕ
  field_of = size / 8388608

  abbrev rest_of : ℕ
  rest_of = size % 8388608

  abbrev made_of : Float
  made_of = of_fields binary32 s field_of rest_of

  rest_lt : rest_of < 8388608
  rest_lt = omega arith

  field_lt : field_of < 256
  field_lt = omega (arith, S)

  size_is : field_of * 8388608 + rest_of ≡ size
  size_is = div-add-mod' size 8388608

  nothing : (z : ℕ) → z ≡ 0 → is_output (of_fields binary32 s (z / 8388608) (z % 8388608)) ≡ true
  unfolding is_output of_fields odd
  nothing z e = subst (λ (y : ℕ). is_output (of_fields binary32 s (y / 8388608) (y % 8388608)) ≡ true) (sym e) refl

  -- whether it is an output number, by its bits
  pub bits-output : is_output made_of ≡ is_output_bits size
  unfolding is_output_bits
  bits-output =
      by-test (eqb size 0) (is_output made_of) true _ (λ t. nothing size (eqb→eq size 0 t))
      (λ n. by-test (ltb 1065353216 size) (is_output made_of) false _
      (λ t. loud-bits s field_of rest_of field_lt rest_lt (subst (λ (z : ℕ). 1065353216 < z) (sym size_is) (ltb→lt 1065353216 size t)))
      (λ m. by-test (ltb field_of 104) (is_output made_of) false _
      (λ t. fine-bits s field_of rest_of (ltb→lt field_of 104 t) rest_lt (subst (λ (z : ℕ). 0 < z) (sym size_is) (some n)))
      (λ l. (tail-bits s field_of rest_of (nltb→le field_of 104 l) rest_lt (subst (λ (z : ℕ). z ≤ 1065353216) (sym size_is) (nltb→le 1065353216 size m))).0)))
    where
      some : T (not (eqb size 0)) → 0 < size
      some n = elim (eq-zero-or-pos size) [
        | inl e ↦ absurd (T_not (eqb size 0) n (eq→eqb e))
        | inr p ↦ p
      ]

  -- its k, by its bits
  pub bits-k : T (is_output_bits size) → k_of made_of ≡ signed_of s (k_bits size)
  unfolding k_bits k_of of_fields odd
  bits-k h = go (eqb size 0) refl
    where
      naught : (z : ℕ) → z ≡ 0 → k_of (of_fields binary32 s (z / 8388608) (z % 8388608)) ≡ signed_of s 0
      naught z e = subst (λ (y : ℕ). k_of (of_fields binary32 s (y / 8388608) (y % 8388608)) ≡ signed_of s 0) (sym e) refl

      go : (b : Bool) → eqb size 0 ≡ b → k_of made_of ≡ signed_of s (cond b 0 (digits_of size / 2 ^ tail_of size))
      go true e = naught size (eqb-true size 0 e)
      go false e =
          let f = output-field size h e in
          (tail-bits s field_of rest_of f.0 rest_lt (subst (λ (z : ℕ). z ≤ 1065353216) (sym size_is) f.1)).1

pub top_field : (size : ℕ) → T (is_output_bits size) → eqb size 0 ≡ false → size / 8388608 ≤ 127
top_field size h e = let f = output-field size h e in omega (arith, f.1)

pub short-tail : (size : ℕ) → T (is_output_bits size) → eqb size 0 ≡ false → 127 - size / 8388608 < 32
short-tail size h e = let f = output-field size h e in omega (arith, f.0)

-- no bit is lost where the digits are moved down and up again
pub whole-digits : (size : ℕ) → digits_of size / 2 ^ tail_of size * 2 ^ tail_of size % 4294967296 ≡ digits_of size / 2 ^ tail_of size * 2 ^ tail_of size
whole-digits size = mod-eq_of_lt (lt_of_le_of_lt (div-mul-le_self (digits_of size) (2 ^ tail_of size)) (omega arith))

-- k is at most 2^23
pub k-bits-le : (size : ℕ) → T (is_output_bits size) → k_bits size ≤ 8388608
unfolding k_bits
k-bits-le size h = go (eqb size 0) refl
  where
    small : (r : ℕ) → size / 8388608 + r ≡ 127 → size ≤ 1065353216 → digits_of size / 2 ^ r ≤ 8388608
    small r e l =
        le_trans (shr_mono {a = digits_of size} {b = 8388608 * 2 ^ r} r
        (le_trans (in-range (size / 8388608) (size % 8388608) r e (omega arith) (le_trans (le_of_eq (div-add-mod' size 8388608)) l)) (le_of_eq (mul_comm (2 ^ r) 8388608))))
        (le_of_eq (shl-shr 8388608 r))

    go : (b : Bool) → eqb size 0 ≡ b → cond b 0 (digits_of size / 2 ^ tail_of size) ≤ 8388608
    go true e = lit≤ tt
    go false e = let f = output-field size h e in small (tail_of size) (omega (arith, f.1)) f.1

-- ---- a binary32 is what its bits stand for

bits_are : (x : Float) → fits binary32 x ≡ true
    → of_fields binary32 (leb 2147483648 (to_bits binary32 x)) (to_bits binary32 x % 2147483648 / 8388608) (to_bits binary32 x % 2147483648 % 8388608) ≡ x
unfolding of_bits
bits_are x h =
    ap (of_fields binary32 (leb 2147483648 (to_bits binary32 x)) (to_bits binary32 x % 2147483648 / 8388608)) (cut (to_bits binary32 x))
    ∙ of_bits-to_bits binary32 x (subst T (sym h) tt)
  where
    cut : (b : ℕ) → b % 2147483648 % 8388608 ≡ b % 8388608
    cut b = omega arith

size-lt : (b : ℕ) → b % 2147483648 < 2147483648
size-lt b = omega arith

-- the test of a number by its bits
pub output-bits : (x : Float) → fits binary32 x ≡ true → is_output x ≡ is_output_bits (to_bits binary32 x % 2147483648)
output-bits x h =
    ap is_output (sym (bits_are x h))
    ∙ bits-output (leb 2147483648 (to_bits binary32 x)) (to_bits binary32 x % 2147483648) (size-lt (to_bits binary32 x))

-- its k by its bits
k-bits : (x : Float) → fits binary32 x ≡ true → T (is_output_bits (to_bits binary32 x % 2147483648))
    → k_of x ≡ signed_of (leb 2147483648 (to_bits binary32 x)) (k_bits (to_bits binary32 x % 2147483648))
k-bits x h t =
    ap k_of (sym (bits_are x h))
    ∙ bits-k (leb 2147483648 (to_bits binary32 x)) (to_bits binary32 x % 2147483648) (size-lt (to_bits binary32 x)) t

-- ---- floor(k/256), held, in two's complement

held_word : (k : ℕ) → k ≤ 8388608 → mod_z (cond (ltb 32767 (k / 256)) (pos 32767) (pos (k / 256))) 65536 ≡ cond (ltb 8388352 k) 32767 (k / 256)
unfolding mod_z
held_word k h = go (ltb 32767 (k / 256)) (ltb 8388352 k) (ltb→lt 32767 (k / 256)) (nltb→le 32767 (k / 256)) (ltb→lt 8388352 k) (nltb→le 8388352 k)
  where
    go : (a b : Bool) → (T a → 32767 < k / 256) → (T (not a) → k / 256 ≤ 32767) → (T b → 8388352 < k) → (T (not b) → k ≤ 8388352)
        → mod_z (cond a (pos 32767) (pos (k / 256))) 65536 ≡ cond b 32767 (k / 256)
    go true true p q r s = refl
    go true false p q r s = absurd (lt_irrefl 0 (omega (arith, p tt, s tt)))
    go false true p q r s = omega (arith, q tt, r tt)
    go false false p q r s = omega (arith, q tt)

-- the 16-bit number of a k with its sign
pub word-is : (s : Bool) (k : ℕ) → k ≤ 8388608 → mod_z (pcm_of_k (signed_of s k)) 65536 ≡ word_of s k
unfolding pcm_of_k word_of mod_z
word-is true zero h = refl
word-is true (suc j) h = omega (arith, h)
word-is false k h = held_word k h

-- the 16-bit number of an output number, by its bits
pub pcm-bits : (x : Float) → fits binary32 x ≡ true → T (is_output_bits (to_bits binary32 x % 2147483648))
    → word_of (leb 2147483648 (to_bits binary32 x)) (k_bits (to_bits binary32 x % 2147483648)) ≡ mod_z (pcm_of x) 65536
unfolding pcm_of
pcm-bits x h t =
    sym (ap (λ (k : ℤ). mod_z (pcm_of_k k) 65536) (k-bits x h t)
    ∙ word-is (leb 2147483648 (to_bits binary32 x)) (k_bits (to_bits binary32 x % 2147483648)) (k-bits-le (to_bits binary32 x % 2147483648) t))

-- ---- NaNs

-- a NaN is no output number
pub nan_no-output : (x : Float) → is_nan x ≡ true → false ≡ is_output x
unfolding is_nan is_output
nan_no-output nan e = refl
nan_no-output (inf s) e = absurd (true≢false (sym e))
nan_no-output (fin s m x) e = absurd (true≢false (sym e))

-- and no output number is one
pub no_nan : (x : Float) → T (is_output x) → T (not (is_nan x))
unfolding is_output is_nan
no_nan nan t = absurd t
no_nan (inf s) t = tt
no_nan (fin s m e) t = tt
