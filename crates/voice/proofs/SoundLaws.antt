-- Laws of the sound: what the tests of the code say of a number held to at least 0.
use Prim.Native.Nat.{ℕ, ◌<◌}
use mathlib.Core.Path.{◌≡◌, refl, subst}
use mathlib.Core.Bool.{true, Bool, false}
use native.Mathlib.Omega.{arith}
use borrow.Author.Tests.{ltb-true}
use lib.IntN.{ℤ, pos, negsuc, nat_abs}
use lib.Signed.{lt_z, non_neg}
use lib.Dec.{T}
use Rattle.voice.specs.Sound.{least0}

-- below 0 it counts as 0
pub least0-below : (z : ℤ) → lt_z z (pos 0) ≡ true → least0 z ≡ 0
least0-below (pos n) t = absurd (no n (ltb-true n 0 t))
  where
    no : (n : ℕ) → n < 0 → ⊥
    no n h = omega arith
least0-below (negsuc n) t = refl

-- else as it is
pub least0-above : (z : ℤ) → lt_z z (pos 0) ≡ false → nat_abs z ≡ least0 z
least0-above (pos n) t = refl
least0-above (negsuc n) t = absurd (subst (λ (b : Bool). T b) t tt)

-- and then it is a number without sign
pub non_neg-above : (z : ℤ) → lt_z z (pos 0) ≡ false → T (non_neg z)
non_neg-above (pos n) t = tt
non_neg-above (negsuc n) t = absurd (subst (λ (b : Bool). T b) t tt)
