-- Which case of a hold the tests of the code lead to.
use mathlib.Core.Path.{◌≡◌, ap, ◌∙◌, subst, refl}
use mathlib.Core.Bool.{Bool, true, false, cond}
use lib.IntN.{ℤ, pos, negsuc}
use lib.Signed.{lt_z}
use Prim.Native.Nat.{ℕ, suc}
use native.Mathlib.Omega.{arith}
use borrow.Author.Tests.{ltb-false}
use native.Mathlib.Nat.{le_trans}
use lib.Dec.{T}
use Rattle.arith.specs.Holds.{held_to}
use Rattle.arith.specs.Within.{Within}
use Rattle.arith.proofs.WithinLaws.{w-lit}

module _ (lo hi k : ℤ) where
  pub clamp-low : lt_z k lo ≡ true → held_to lo hi k ≡ lo
  clamp-low t = ap (λ (b : Bool). cond b lo (cond (lt_z hi k) hi k)) t

  pub clamp-high : lt_z k lo ≡ false → lt_z hi k ≡ true → held_to lo hi k ≡ hi
  clamp-high t u = ap (λ (b : Bool). cond b lo (cond (lt_z hi k) hi k)) t ∙ ap (λ (b : Bool). cond b hi k) u

  pub clamp-in : lt_z k lo ≡ false → lt_z hi k ≡ false → held_to lo hi k ≡ k
  clamp-in t u = ap (λ (b : Bool). cond b lo (cond (lt_z hi k) hi k)) t ∙ ap (λ (b : Bool). cond b hi k) u

-- x is from low to high, and so within the larger of the two
pub between-two : (low high x : ℤ) (n : ℕ) → lt_z x low ≡ false → lt_z high x ≡ false → Within low n → Within high n → Within x n
between-two low (pos h) (pos a) n t u l k = record { within = le_trans (ltb-false h a u) k.within }
between-two low (negsuc h) (pos a) n t u l k = absurd (subst (λ (b : Bool). T b) u tt)
between-two (pos l) high (negsuc a) n t u x k = absurd (subst (λ (b : Bool). T b) t tt)
between-two (negsuc l) high (negsuc a) n t u x k = record { within = omega (arith, ltb-false l a t, x.within) }

-- a hold is within what both of its ends are within
pub held-bound : (low high x : ℤ) (n : ℕ) → Within low n → Within high n → Within (held_to low high x) n
held-bound low high x n l h = first (lt_z x low) refl
  where
    last : lt_z x low ≡ false → (b : Bool) → lt_z high x ≡ b → Within (held_to low high x) n
    last t true u = rw (clamp-high low high x t u) h
    last t false u = rw (clamp-in low high x t u) (between-two low high x n t u l h)

    first : (b : Bool) → lt_z x low ≡ b → Within (held_to low high x) n
    first true t = rw (clamp-low low high x t) l
    first false t = last t (lt_z high x) refl

-- held to -(n + 1)..n + 1
pub held-within : (z : ℤ) (n : ℕ) → Within (held_to (negsuc n) (pos (suc n)) z) (suc n)
held-within z n = held-bound (negsuc n) (pos (suc n)) z (suc n) (w-lit (negsuc n)) (w-lit (pos (suc n)))
