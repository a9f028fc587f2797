-- Demand 3's bound, in 1,200th powers: for one step, and for n steps. c is the pitch in cents plus 9,600.
use lib.Dec.{T, lit<}
use Prim.Native.Nat.{ℕ, ◌≤◌, ◌+◌, ◌*◌, ◌^◌, ◌<◌, ◌-◌, ◌/◌, ◌%◌}
use lib.ListN.{get_or}
use mathlib.Core.Path.{◌≡◌, subst, sym, ap, ◌∙◌}
use native.Mathlib.Nat.{mod-lt, mul-pos, le_trans, mul-le-mul_left, le_of_eq, lt_of_lt_of_le, mul_assoc, mul-add, one-le-pow, mul-lt-mul_of_pos_left}
use native.Mathlib.Omega.{arith}
use lib.Pow.{pow_pos, pow_mono}
use lib.IntN.{ℤ}
use Rattle.curves.specs.Octave.{octaves}
use Rattle.curves.proofs.Tables.{all_le, each-le}
use Rattle.curves.proofs.LoudnessLaws.{gain-falls}
use Rattle.curves.specs.Levels.{gain_of, velocities, cb_of}
use Rattle.curves.proofs.OctaveTableLaws.{octave-low, octave-high}
use Rattle.curves.proofs.Powers.{low, high, cancel-le, cancel-lt, mul-pow}
use Rattle.curves.specs.Pitch.{step_of, lifted, pitch_held}
use Rattle.curves.specs.Internal.Pitch.{step_at}
use Rattle.curves.proofs.OctaveLaws.{up_le}

octaves-tested : T (all_le 2147483647 octaves)
unfolding all_le
octaves-tested = tt

pub octave-le : (i : ℕ) → get_or octaves i 0 ≤ 2147483647
octave-le i = each-le 2147483647 octaves octaves-tested i

pub gain-le : (a : ℕ) → gain_of a ≤ 16777216
unfolding gain_of
gain-le a = gain-falls 0 a (omega arith)

velocities-tested : T (all_le 960 velocities)
unfolding all_le
velocities-tested = tt

pub cb-le : (v : ℕ) → cb_of v ≤ 960
unfolding cb_of
cb-le v = each-le 960 velocities velocities-tested v

-- s <= X < s + 2, for X = 2^24 * 2^((c - 9600) / 1200) * rate / 44100, as 1,200th powers
pub record StepAt (c rate s : ℕ) : Type 0 where
  pub above : (s * 44100) ^ 1200 ≤ 2 ^ (c + 19200) * rate ^ 1200
  pub below : 2 ^ (c + 19200) * rate ^ 1200 < ((s + 2) * 44100) ^ 1200

pub step_right : (c rate : ℕ) → c ≤ 14400 → 0 < rate → rate ≤ 176400 → StepAt c rate (step_of c rate)
unfolding step_of
step_right c rate hc hp hr =
    let i = c % 1200 in
    let e = 14 - c / 1200 in
    let t = get_or octaves i 0 in
    let d = 44100 * 2 ^ e in
    let R = c + 19200 in
    let d-pos : 0 < d = mul-pos {m = 44100} {n = 2 ^ e} (lit< tt) (pow_pos e) in
    let two : 2 ≤ e = omega arith in
    let fits : rate ≤ d = le_trans hr (mul-le-mul_left {m = 4} {n = 2 ^ e} 44100 (pow_mono {i = 2} {j = e} two)) in
    let h : i < 1200 = mod-lt c (lit< tt) in
    let exps : i + 36000 ≡ e * 1200 + R = omega arith in
    record {
      above = cancel-le 1200 44100 e R rate (t * rate / d) (low 1200 t rate d (2 ^ (e * 1200 + R)) d-pos (subst (λ (x : ℕ). t ^ 1200 ≤ 2 ^ x) exps (octave-low i h)));
      below = cancel-lt 1200 44100 e R rate (t * rate / d + 2) (high 1200 t rate d (2 ^ (e * 1200 + R)) d-pos fits hp (subst (λ (x : ℕ). 2 ^ x < (t + 1) ^ 1200) exps (octave-high i h)));
    }

-- n steps: n * s <= n * X < n * s + 2 * n
pub record StepsAt (c rate s n : ℕ) : Type 0 where
  pub above : (n * s * 44100) ^ 1200 ≤ n ^ 1200 * (2 ^ (c + 19200) * rate ^ 1200)
  pub below : n ^ 1200 * (2 ^ (c + 19200) * rate ^ 1200) < ((n * s + n * 2) * 44100) ^ 1200

pub steps : (c rate s n : ℕ) → 0 < n → StepAt c rate s → StepsAt c rate s n
steps c rate s n p h =
    record {
      above = le_trans (le_of_eq (scaled 1200 n s 44100)) (mul-le-mul_left (n ^ 1200) h.above);
      below = lt_of_lt_of_le (mul-lt-mul_of_pos_left h.below (one-le-pow 1200 n p)) (le_of_eq (sym (ap (λ (x : ℕ). (x * 44100) ^ 1200) (sym (mul-add n s 2)) ∙ scaled 1200 n (s + 2) 44100)));
    }
  where
    scaled : (k n s b : ℕ) → (n * s * b) ^ k ≡ n ^ k * (s * b) ^ k
    scaled k n s b = ap (λ (x : ℕ). x ^ k) (mul_assoc n s b) ∙ mul-pow n (s * b) k

-- for every pitch total and every rate that a bank may have
module _ (cents : ℤ) (rate : ℕ) (low : 400 ≤ rate) (high : rate ≤ 50000) where
  pub step-bound : StepAt (lifted (pitch_held cents)) rate (step_at cents rate)
  unfolding step_at
  step-bound = step_right (lifted (pitch_held cents)) rate (up_le 9600 4800 cents) (omega arith) (omega arith)

  pub steps-bound : (n : ℕ) → 0 < n → StepsAt (lifted (pitch_held cents)) rate (step_at cents rate) n
  steps-bound n p = steps (lifted (pitch_held cents)) rate (step_at cents rate) n p step-bound
