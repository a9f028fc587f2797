-- Laws of a number lifted to the octave table, and of the table's places.
use Prim.Native.Nat.{ℕ, zero, suc, ◌+◌, ◌≤◌}
use lib.IntN.{ℤ, pos, neg_ℤ, nat_abs, ◌+ℤ◌, negsuc}
use mathlib.Core.Path.{◌≡◌, refl, ap, ◌∙◌, sym, subst}
use native.Mathlib.Omega.{arith}
use mathlib.Core.Bool.{Bool, false, true}
use borrow.Author.Tests.{ltb-false}
use lib.Dec.{T}
use lib.Signed.{lt_z, non_neg}
use Rattle.arith.specs.Holds.{held_to}
use Rattle.arith.proofs.FloorsLaws.{sub-pos}
use Rattle.arith.proofs.HoldsLaws.{clamp-low, clamp-high, clamp-in}

module _ (low high : ℕ) (x : ℤ) where
  -- held, and lifted
  abbrev pub up : ℕ
  up = nat_abs (held_to (neg_ℤ (pos low)) (pos high) x +ℤ pos low)

pub none : (low : ℕ) → nat_abs (neg_ℤ (pos low) +ℤ pos low) ≡ 0
none zero = refl
none (suc n) = ap nat_abs (sub-pos (suc n) (suc n) (omega arith)) ∙ omega arith

-- x is not below -low: it stands above it as a natural number
pub lifts : (low : ℕ) (x : ℤ) → lt_z x (neg_ℤ (pos low)) ≡ false → T (non_neg (x +ℤ pos low))
lifts low (pos a) t = tt
lifts zero (negsuc a) t = absurd (subst (λ (b : Bool). T b) t tt)
lifts (suc n) (negsuc a) t = subst (λ (z : ℤ). T (non_neg z)) (sym (sub-pos (suc n) (suc a) (omega (arith, ltb-false n a t)))) tt

pub lifts-le : (low high : ℕ) (x : ℤ) → lt_z x (neg_ℤ (pos low)) ≡ false → lt_z (pos high) x ≡ false → nat_abs (x +ℤ pos low) ≤ low + high
lifts-le low high (pos a) t u = omega (arith, ltb-false high a u)
lifts-le zero high (negsuc a) t u = absurd (subst (λ (b : Bool). T b) t tt)
lifts-le (suc n) high (negsuc a) t u = rw (sub-pos (suc n) (suc a) (omega (arith, ltb-false n a t))) (omega arith)

module _ (low high : ℕ) (x : ℤ) where
  pub up-low : lt_z x (neg_ℤ (pos low)) ≡ true → up low high x ≡ 0
  up-low t = ap (λ (z : ℤ). nat_abs (z +ℤ pos low)) (clamp-low (neg_ℤ (pos low)) (pos high) x t) ∙ none low

  pub up-high : lt_z x (neg_ℤ (pos low)) ≡ false → lt_z (pos high) x ≡ true → up low high x ≡ high + low
  up-high t u = ap (λ (z : ℤ). nat_abs (z +ℤ pos low)) (clamp-high (neg_ℤ (pos low)) (pos high) x t u)

  pub up_in : lt_z x (neg_ℤ (pos low)) ≡ false → lt_z (pos high) x ≡ false → up low high x ≡ nat_abs (x +ℤ pos low)
  up_in t u = ap (λ (z : ℤ). nat_abs (z +ℤ pos low)) (clamp-in (neg_ℤ (pos low)) (pos high) x t u)

  -- it is at most low + high
  pub up_le : up low high x ≤ low + high
  up_le = below (lt_z x (neg_ℤ (pos low))) refl
    where
      inside : lt_z x (neg_ℤ (pos low)) ≡ false → (b : Bool) → lt_z (pos high) x ≡ b → up low high x ≤ low + high
      inside t true u = rw (up-high t u) (omega arith)
      inside t false u = rw (up_in t u) (lifts-le low high x t u)

      below : (b : Bool) → lt_z x (neg_ℤ (pos low)) ≡ b → up low high x ≤ low + high
      below true t = rw (up-low t) (omega arith)
      below false t = inside t (lt_z (pos high) x) refl
