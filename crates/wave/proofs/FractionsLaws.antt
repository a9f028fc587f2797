-- What an output number is, and its 16-bit number.
use mathlib.Core.Bool.{Bool, true, false, cond}
use mathlib.Core.Logic.{◌⊎◌, inl, inr}
use mathlib.Core.Path.{◌≡◌, refl, ap, sym, ◌∙◌, subst}
use Prim.Native.Nat.{ℕ, zero, suc, ◌+◌, ◌*◌, ◌/◌, ◌%◌, ◌≤◌}
use native.Mathlib.Nat.{div-add-mod', div-le_of_le-mul, le_of_mul-le-mul_right, le_of_eq, le_trans, mul_comm, mul-div_cancel, mul-le-mul_right, mul-mod_left, add-zero}
use native.Mathlib.Omega.{arith}
use borrow.Author.Tests.{eqb-true, leb-true, eq-eqb, le-leb, ltb-true, ltb-false}
use lib.Dec.{T, eqb, leb, ltb, le→leb, lit≤, lit<}
use lib.Ieee.{nan, inf, fin, up, down}
use lib.Ieee.Fits.{down_pos}
use lib.IntN.{ℤ, pos, negsuc, neg_ℤ, nat_abs}
use lib.Signed.{le_z_yes}
use Rattle.arith.specs.Floats.{is_neg}
use Rattle.arith.proofs.FloatsLaws.{round-down}
use Rattle.arith.proofs.FloorsLaws.{floor-low, floor-high}
use Rattle.wave.specs.Pcm.{is_output, k_of, pcm_of_k, number_of}
use Rattle.wave.specs.Fractions.{PassedIsOutput, OutputPasses, FloorHeld, PcmIsFloor, NumberIsExact}
use Rattle.wave.proofs.PcmLaws.{both, signed_of}

-- ---- the k of a size and a sign
signed-size : (s : Bool) (q : ℕ) → nat_abs (signed_of s q) ≡ q
signed-size true zero = refl
signed-size true (suc q) = refl
signed-size false q = refl

signed-sign : (s : Bool) (q : ℕ) → (signed_of s q ≡ pos 0) ⊎ (s ≡ is_neg (signed_of s q))
signed-sign true zero = inl refl
signed-sign true (suc q) = inr refl
signed-sign false q = inr refl

signed-of : (s : Bool) (k : ℤ) → (k ≡ pos 0) ⊎ (s ≡ is_neg k) → signed_of s (nat_abs k) ≡ k
signed-of true k (inl e) = ap (λ (z : ℤ). neg_ℤ (pos (nat_abs z))) e ∙ sym e
signed-of false k (inl e) = ap (λ (z : ℤ). pos (nat_abs z)) e ∙ sym e
signed-of true (pos n) (inr e) = absurd (subst T e tt)
signed-of true (negsuc n) (inr e) = refl
signed-of false (pos n) (inr e) = refl
signed-of false (negsuc n) (inr e) = absurd (subst T (sym e) tt)

-- ---- the test

-- a fraction whose 2^23-fold is whole, and that is at most 1
whole : (a d : ℕ) → a * 8388608 % d ≡ 0 → a * 8388608 / d * d ≡ a * 8388608
whole a d r = sym (add-zero (a * 8388608 / d * d)) ∙ ap (λ (n : ℕ). a * 8388608 / d * d + n) (sym r) ∙ div-add-mod' (a * 8388608) d

most : (a d : ℕ) → a ≤ d → a * 8388608 / d ≤ 8388608
most a d l = div-le_of_le-mul d (mul-le-mul_right 8388608 l)

pub passed-is-output : PassedIsOutput
unfolding is_output k_of
passed-is-output nan h = absurd (subst T (sym h) tt)
passed-is-output (inf s) h = absurd (subst T (sym h) tt)
passed-is-output (fin s m e) h =
    let a = m * up e in
    let d = down e in
    let q = a * 8388608 / d in
    let two = both (eqb (a * 8388608 % d) 0) (leb a d) h in
    let size = signed-size s q in
    record {
      sign = s;
      value = (refl, sym (whole a d (eqb-true (a * 8388608 % d) 0 two.0)) ∙ ap (λ (n : ℕ). n * d) (sym size));
      small = record { within = le_trans (le_of_eq size) (most a d (leb-true a d two.1)) };
      signed = signed-sign s q;
    }

pub output-passes : OutputPasses
unfolding is_output k_of
output-passes nan k h = absurd h.value
output-passes (inf s) k h = absurd h.value
output-passes (fin s m e) k h =
    let a = m * up e in
    let d = down e in
    let v : a * 8388608 ≡ nat_abs k * d = h.value.1 in
    let rest : a * 8388608 % d ≡ 0 = ap (λ (n : ℕ). n % d) v ∙ mul-mod_left (nat_abs k) d in
    let size : a * 8388608 / d ≡ nat_abs k = ap (λ (n : ℕ). n / d) v ∙ mul-div_cancel (nat_abs k) (down_pos e) in
    let low : a ≤ d = le_of_mul-le-mul_right {k = 8388608} (le_trans (le_of_eq v) (le_trans (mul-le-mul_right d h.small.within) (le_of_eq (mul_comm 8388608 d)))) (lit< tt) in (
      rw (eq-eqb (a * 8388608 % d) 0 rest) (le-leb a d low),
      ap (signed_of s) size ∙ ap (λ (b : Bool). signed_of b (nat_abs k)) h.value.0 ∙ signed-of h.sign k h.signed,
    )

-- ---- its 16-bit number
pub pcm-is-floor : PcmIsFloor
unfolding pcm_of_k
pcm-is-floor (pos a) w = by (ltb 32767 (a / 256)) refl
  where
    by : (b : Bool) → ltb 32767 (a / 256) ≡ b → FloorHeld (pos a) (cond b (pos 32767) (pos (a / 256)))
    by true e =
        let l = ltb-true 32767 (a / 256) e in
        let h = w.within in
        let top : a ≡ 8388608 = omega arith in
        record { low = record { le = le→leb (32767 * 256) a (omega arith) }; high = inr (refl, ap pos top); least = le_z_yes tt; most = le_z_yes tt }
    by false e =
        record {
          low = floor-low (pos a) 256 (lit< tt);
          high = inl (floor-high (pos a) 256 (lit< tt));
          least = le_z_yes tt;
          most = record { le = le→leb (a / 256) 32767 (ltb-false 32767 (a / 256) e) };
        }
pcm-is-floor (negsuc a) w =
    let h = w.within in
    record {
      low = floor-low (negsuc a) 256 (lit< tt);
      high = inl (floor-high (negsuc a) 256 (lit< tt));
      least = record { le = le→leb (a / 256) 32767 (omega arith) };
      most = le_z_yes tt;
    }

-- ---- and the way back
pub number-is-exact : NumberIsExact
unfolding number_of
number-is-exact v w = record { value = round-down (is_neg v) (nat_abs v) 15 134 refl (le_trans w.within (lit≤ tt)) }
