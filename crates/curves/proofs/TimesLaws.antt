-- The two cases of the frames for a time, and the most that there are.
use mathlib.Core.Path.{◌≡◌, ap, refl, ◌∙◌}
use mathlib.Core.Bool.{Bool, true, false, cond}
use Prim.Native.Nat.{ℕ, ◌≤◌, ◌+◌, ◌*◌, ◌^◌, ◌/◌, ◌%◌}
use native.Mathlib.Nat.{le_refl, le_trans, mul-le-mul, mul_assoc, mul_comm}
use native.Mathlib.Omega.{arith}
use borrow.Author.Tests.{ltb-true, ltb-false}
use lib.Dec.{ltb}
use lib.ListN.{get_or}
use lib.Pow.{pow_mono}
use lib.IntN.{ℤ, pos, negsuc, nat_abs, ◌+ℤ◌}
use lib.Signed.{le_z}
use Rattle.arith.specs.Holds.{held_to}
use Rattle.curves.specs.Octave.{octaves}
use Rattle.curves.specs.Times.{frames_up, frames}
use Rattle.curves.proofs.OctaveLaws.{up_le}
use Rattle.curves.proofs.OctaveTableLaws.{octave-rises}

module _ (top t : ℤ) where
  abbrev up : ℕ
  up = frames_up (nat_abs (held_to (negsuc 11999) top t +ℤ pos 12000))

  pub no_frames : le_z t (negsuc 32767) ≡ true → frames top t ≡ 0
  unfolding frames
  no_frames e = ap (λ (b : Bool). cond b 0 up) e

  pub some-frames : le_z t (negsuc 32767) ≡ false → frames top t ≡ frames_up (nat_abs (held_to (negsuc 11999) top t +ℤ pos 12000))
  unfolding frames
  some-frames e = ap (λ (b : Bool). cond b 0 up) e

-- frames for 8,000 timecents at most
up-most : (c : ℕ) → c ≤ 20000 → frames_up c ≤ 4480280
unfolding frames_up
up-most c h = by (ltb (c / 1200) 16) refl
  where
    t : ℕ
    t = get_or octaves (c % 1200) 0

    few : (n p : ℕ) → n * p ≤ 111703418470400 → n * 44100 * p / 2 ^ 40 ≤ 4480280
    few n p h =
        let q : n * 44100 * p ≡ 44100 * (n * p) = ap (λ (y : ℕ). y * p) (mul_comm n 44100) ∙ mul_assoc 44100 n p in
        rw q (omega arith)

    by : (b : Bool) → ltb (c / 1200) 16 ≡ b → t * 44100 * 2 ^ (c / 1200) / 2 ^ 40 ≤ 4480280
    by true q =
        let l : c / 1200 ≤ 15 = omega (arith, ltb-true (c / 1200) 16 q) in
        let r : t ≤ get_or octaves 1199 0 = octave-rises (c % 1200) 1199 (omega arith) (omega arith) in
        few t (2 ^ (c / 1200)) (le_trans (mul-le-mul r (pow_mono {i = c / 1200} {j = 15} l)) (omega arith))
    by false q =
        let k : c / 1200 ≡ 16 = omega (arith, ltb-false (c / 1200) 16 q) in
        let r : t ≤ get_or octaves 800 0 = octave-rises (c % 1200) 800 (omega arith) (omega arith) in
        few t (2 ^ (c / 1200)) (rw k (le_trans (mul-le-mul r (le_refl (2 ^ 16))) (omega arith)))

-- no time that is held to 8,000 timecents has more
pub frames-most : (t : ℤ) → frames (pos 8000) t ≤ 4480280
frames-most t = by (le_z t (negsuc 32767)) refl
  where
    by : (b : Bool) → le_z t (negsuc 32767) ≡ b → frames (pos 8000) t ≤ 4480280
    by true q = rw (no_frames (pos 8000) t q) (omega arith)
    by false q = rw (some-frames (pos 8000) t q) (up-most (nat_abs (held_to (negsuc 11999) (pos 8000) t +ℤ pos 12000)) (up_le 12000 8000 t))
