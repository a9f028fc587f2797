-- Laws of the voice's numbers: which case the code's tests lead to.
use mathlib.Core.Bool.{Bool, true, false, ◌&&◌, cond}
use mathlib.Core.Path.{◌≡◌, refl, subst}
use Prim.Native.Nat.{ℕ, suc, ◌%◌, ◌<◌}
use lib.IntN.{ℤ, pos, negsuc, nat_abs, ◌+ℤ◌, ◌-ℤ◌, ◌*ℤ◌}
use lib.Signed.{lt_z, non_neg}
use borrow.Author.Tests.{ltb-true, lt-leb, ltb-false, le-leb}
use lib.Dec.{T, lit<}
use native.Mathlib.Nat.{lt_of_le_of_lt}
use mir.Syntax.{w8, w16}
use mir.Val.{Fits, SFits, of_z}
use native.Mathlib.Omega.{arith}
use Rattle.arith.specs.Holds.{between_z, held_to}
use Rattle.totals.specs.Settings.{if_midi}
use Rattle.arith.specs.Floors.{mod_z}

and_no : (b : Bool) → (b && false) ≡ false
and_no true = refl
and_no false = refl

-- below low
pub midi-low : (low : ℕ) (x : ℤ) (other : ℕ) → lt_z x (pos low) ≡ true → if_midi low x other ≡ other
unfolding if_midi between_z
midi-low low (pos a) other t = rw (lt-leb low a (ltb-true a low t)) refl
midi-low low (negsuc a) other t = refl

-- above 127
pub midi-high : (low : ℕ) (x : ℤ) (other : ℕ) → lt_z (pos 127) x ≡ true → if_midi low x other ≡ other
unfolding if_midi between_z
midi-high low (pos a) other t = rw (lt-leb a 127 (ltb-true 127 a t)) (rw and_no refl)
midi-high low (negsuc a) other t = refl

-- low..127
pub midi-in : (low : ℕ) (x : ℤ) (other : ℕ) → lt_z x (pos low) ≡ false → lt_z (pos 127) x ≡ false → if_midi low x other ≡ nat_abs x
unfolding if_midi between_z
midi-in low (pos a) other t u = rw (le-leb low a (ltb-false a low t), le-leb a 127 (ltb-false 127 a u)) refl
midi-in low (negsuc a) other t u = absurd (subst (λ (b : Bool). T b) t tt)

pub midi-byte : (low : ℕ) (x : ℤ) → lt_z x (pos low) ≡ false → lt_z (pos 127) x ≡ false → T (non_neg x) × Fits w8 (nat_abs x)
midi-byte low (pos a) t u = (tt, record { fits = lt_of_le_of_lt (ltb-false 127 a u) (lit< tt) })
midi-byte low (negsuc a) t u = absurd (subst (λ (b : Bool). T b) t tt)

-- the 16 bits of a number of 16 bits
pub bits-mod : (x : ℤ) → SFits w16 x → of_z w16 x ≡ mod_z x 65536
unfolding mod_z
bits-mod (pos a) h = omega (arith, h.sfits)
bits-mod (negsuc a) h = omega (arith, h.sfits)

pub mod4-lt : (x : ℤ) → mod_z x 4 < 4
unfolding mod_z
mod4-lt (pos a) = omega arith
mod4-lt (negsuc a) = omega arith

-- what is held to 0..n is not negative
pub held-nonneg : (n : ℕ) (x : ℤ) → T (non_neg (held_to (pos 0) (pos n) x))
held-nonneg n (pos a) = either (lt_z (pos a) (pos 0)) (lt_z (pos n) (pos a))
  where
    either : (t u : Bool) → T (non_neg (cond t (pos 0) (cond u (pos n) (pos a))))
    either true u = tt
    either false true = tt
    either false false = tt
held-nonneg n (negsuc a) = tt

-- the pitch total of equal parts
pub tune-same : {k l r s scale wide coarse rough fine thin e f : ℤ} → k ≡ l → r ≡ s → scale ≡ wide → coarse ≡ rough → fine ≡ thin → e ≡ f → (k -ℤ r) *ℤ scale +ℤ pos 100 *ℤ coarse +ℤ fine +ℤ e ≡ (l -ℤ s) *ℤ wide +ℤ pos 100 *ℤ rough +ℤ thin +ℤ f
tune-same a b c d e f = rw (a, b, c, d, e, f) refl
