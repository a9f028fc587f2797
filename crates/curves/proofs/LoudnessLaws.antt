-- Every gain follows 01's rule, from the rule of those that are kept: the rule for 200 cB more is that of the number times ten.
use Prim.Native.Nat.{ℕ, zero, suc, ◌+◌, ◌*◌, ◌^◌, ◌/◌, ◌%◌, ◌≤◌}
use mathlib.Core.Bool.{Bool, true, false}
use mathlib.Core.Path.{◌≡◌, refl, ap, sym, ◌∙◌, subst}
use lib.Dec.{ltb, lit<}
use lib.ListN.{get_or}
use lib.Pow.{pow-add}
use native.Mathlib.Nat.{le_trans, le_antisymm, mul_assoc, mul_comm, mul-le-mul_left, mul-le-mul_right, pow-le-pow_left, pow-le-pow_right, div-mul-le_self, mod-lt}
use native.Mathlib.Omega.{arith}
use borrow.Author.Tests.{ltb-true, ltb-false, lt-ltb, le-ltb}
use Rattle.curves.proofs.GainTableLaws.{kept-largest}
use Rattle.curves.proofs.Powers.{mul-pow}
use Rattle.curves.specs.Levels.{gains, tenths, gain_of}
use Rattle.curves.specs.Loudness.{Largest, Lowered, GainIsLargest, GainStays, FurtherTenth, SilentPast}

-- for any exponent k in place of 200, so that no power is computed
module _ (k a limit : ℕ) where
  ten-in : (g : ℕ) → g ^ k * 10 ^ (a + k) ≡ (g * 10) ^ k * 10 ^ a
  ten-in g =
      ap (λ (x : ℕ). g ^ k * x) (pow-add 10 a k ∙ mul_comm (10 ^ a) (10 ^ k)) ∙ sym (mul_assoc (g ^ k) (10 ^ k) (10 ^ a))
      ∙ ap (λ (x : ℕ). x * 10 ^ a) (sym (mul-pow g 10 k))

  tenth : (g : ℕ) → Largest (λ (x : ℕ). x ^ k * 10 ^ a ≤ limit) g → Largest (λ (x : ℕ). x ^ k * 10 ^ (a + k) ≤ limit) (g / 10)
  tenth g h =
      record {
        holds = subst (λ (x : ℕ). x ≤ limit) (sym (ten-in (g / 10))) (le_trans (mul-le-mul_right (10 ^ a) (pow-le-pow_left (div-mul-le_self g 10) k)) h.holds);
        most = λ m l. let t = h.most (m * 10) (subst (λ (x : ℕ). x ≤ limit) (ten-in m) l) in omega arith;
      }

-- n tenths, for n times 200 cB
divided : (n a g : ℕ) → Largest (Lowered a) g → Largest (Lowered (a + n * 200)) (tenths n g)
divided zero a g h = let e : a ≡ a + 0 * 200 = omega arith in subst (λ (m : ℕ). Largest (Lowered m) g) e h
divided (suc n) a g h =
    let e : a + 200 + n * 200 ≡ a + suc n * 200 = omega arith in
    subst (λ (m : ℕ). Largest (Lowered m) (tenths n (g / 10))) e (divided n (a + 200) (g / 10) (tenth 200 a (2 ^ 4800) g h))

pub gain-is-largest : GainIsLargest
unfolding gain_of
gain-is-largest a h =
    let e : a % 200 + a / 200 * 200 ≡ a = omega arith in
    rw (le-ltb 1440 a h)
    (subst (λ (m : ℕ). Largest (Lowered m) (tenths (a / 200) (get_or gains (a % 200) 0))) e
    (divided (a / 200) (a % 200) (get_or gains (a % 200) 0) (kept-largest (a % 200) (mod-lt a (lit< tt)))))

pub gain-stays : GainStays
gain-stays a g h l = let k = gain-is-largest a h in le_antisymm (l.most (gain_of a) k.holds) (k.most g l.holds)

pub further-tenth : FurtherTenth
further-tenth a h = gain-stays (a + 200) (gain_of a / 10) h (tenth 200 a (2 ^ 4800) (gain_of a) (gain-is-largest a (omega arith)))

pub silent-past : SilentPast
unfolding gain_of
silent-past a h = simp (lt-ltb 1440 a h)

-- gains never rise
pub gain-falls : (a b : ℕ) → a ≤ b → gain_of b ≤ gain_of a
gain-falls a b h = by (ltb 1440 b) refl
  where
    by : (t : Bool) → ltb 1440 b ≡ t → gain_of b ≤ gain_of a
    by true e = omega (arith, silent-past b (ltb-true 1440 b e))
    by false e =
        let k = ltb-false 1440 b e in
        (gain-is-largest a (omega arith)).most (gain_of b)
        (le_trans (mul-le-mul_left (gain_of b ^ 200) (pow-le-pow_right {n = 10} (lit< tt) h)) (gain-is-largest b k).holds)

-- the last gain is 1, and dividing alone would give 1 for the next too
pub past-the-last : (gain_of 1440 ≡ 1) × (gain_of 1441 ≡ 0) × (tenths (1441 / 200) (get_or gains (1441 % 200) 0) ≡ 1)
unfolding gain_of
past-the-last = (refl, refl, refl)
