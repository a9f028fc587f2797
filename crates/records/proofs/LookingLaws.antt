-- Laws of `first` and `last`, as loops want them: one number more, and a first that stays the first.
use Rattle.std.specs.Prelude.{Option, None, Some}
use mathlib.Core.Bool.{Bool, true, false}
use mathlib.Core.Path.{◌≡◌, refl, subst, ◌∙◌}
use Prim.Native.Nat.{ℕ, ◌+◌, zero, suc, ◌-◌, ◌<◌, ◌≤◌}
use native.Mathlib.Numerals.{add-one}
use native.Mathlib.Nat.{add-zero, add-suc, zero-add, not-suc-le-zero, le_of_suc-le-suc, eq-or-lt_of_le}
use native.Mathlib.Omega.{arith}
use mathlib.Core.Logic.{◌⊎◌, inl, inr, ⊎_elim}
use Rattle.records.specs.Looking.{last, first, or_else, given, placed}

pub last_none : (p : ℕ → Bool) (from : ℕ) → last p from 0 ≡ None
unfolding last
last_none p from = refl

pub last-hit : (p : ℕ → Bool) (from n : ℕ) → p (from + n) ≡ true → last p from (n + 1) ≡ Some (from + n)
unfolding last
last-hit p from n e = rw add-one (rw e refl)

pub last-miss : (p : ℕ → Bool) (from n : ℕ) → p (from + n) ≡ false → last p from (n + 1) ≡ last p from n
unfolding last
last-miss p from n e = rw add-one (rw e refl)

pub first-none : (p : ℕ → Bool) (from : ℕ) → first p from 0 ≡ None
unfolding first
first-none p from = refl

pub first-miss : (p : ℕ → Bool) (from n : ℕ) → first p from n ≡ None → p (from + n) ≡ false → first p from (n + 1) ≡ None
unfolding first
first-miss p from n none e = rw add-one (rw (none, e) refl)

stays : (p : ℕ → Bool) (from n k x : ℕ) → first p from n ≡ Some x → first p from (n + k) ≡ Some x
unfolding first
stays p from n zero x e = rw add-zero e
stays p from n (suc k) x e = rw (add-suc, stays p from n k x e) refl

-- the first is found at n, also where the search goes on to m
pub first-hit : (p : ℕ → Bool) (from n m : ℕ) → first p from n ≡ None → p (from + n) ≡ true → n < m → first p from m ≡ Some (from + n)
unfolding first
first-hit p from n m none e h =
    let here : first p from (suc n) ≡ Some (from + n) = rw (none, e) refl in
    let eq : suc n + (m - suc n) ≡ m = omega arith in
    subst (λ (k : ℕ). first p from k ≡ Some (from + n)) eq (stays p from (suc n) (m - suc n) (from + n) here)

-- the same from 0 on
pub first-miss0 : (p : ℕ → Bool) (n : ℕ) → first p 0 n ≡ None → p n ≡ false → first p 0 (n + 1) ≡ None
first-miss0 p n none e = first-miss p 0 n none (rw zero-add e)

pub first-hit0 : (p : ℕ → Bool) (n m : ℕ) → first p 0 n ≡ None → p n ≡ true → n < m → first p 0 m ≡ Some n
first-hit0 p n m none e h = first-hit p 0 n m none (rw zero-add e) h ∙ rw zero-add refl

-- what is found lies among the numbers, and p holds of it
pub record Hit (p : ℕ → Bool) (from n x : ℕ) : Type 0 where
  pub low : from ≤ x
  pub high : x < from + n
  pub holds : p x ≡ true

-- where one number more was looked at
or-given : (f : Option ℕ) (t : Bool) (y x : ℕ) → or_else f (given t y) ≡ Some x → (f ≡ Some x) ⊎ ((t ≡ true) × (y ≡ x))
or-given (Some z) t y x e = inl e
or-given None true y x e = inr (refl, cc)
or-given None false y x e = let z : ◌≡◌ {A = ℕ} 0 1 = cc in absurd (omega arith)

pub first-is : (p : ℕ → Bool) (from n x : ℕ) → first p from n ≡ Some x → Hit p from n x
unfolding first
first-is p from zero x e = let z : ◌≡◌ {A = ℕ} 0 1 = cc in absurd (omega arith)
first-is p from (suc n) x e =
    ⊎_elim (λ f. more (first-is p from n x f)) (λ h. record { low = omega arith; high = omega arith; holds = subst (λ (k : ℕ). p k ≡ true) h.1 h.0 })
    (or-given (first p from n) (p (from + n)) (from + n) x e)
  where
    more : Hit p from n x → Hit p from (suc n) x
    more h = record { low = h.low; high = omega arith; holds = h.holds }

-- nothing is found exactly where p holds nowhere
at-is-not : (x : ℕ) → Some x ≡ None → ⊥
at-is-not x e = let z : ◌≡◌ {A = ℕ} 0 1 = cc in omega arith

pub given-none : (t : Bool) (x : ℕ) → given t x ≡ None → t ≡ false
given-none false x e = refl
given-none true x e = absurd (at-is-not x e)

pub placed-none : (f : ℕ → ℕ) (x : Option ℕ) → placed f x ≡ None → x ≡ None
placed-none f None e = refl
placed-none f (Some x) e = absurd (at-is-not (f x) e)

pub or-none : (f g : Option ℕ) → or_else f g ≡ None → (f ≡ None) × (g ≡ None)
or-none None g e = (refl, e)
or-none (Some x) g e = absurd (at-is-not x e)

pub first-nothing : (p : ℕ → Bool) (from n : ℕ) → first p from n ≡ None → (k : ℕ) → k < n → p (from + k) ≡ false
unfolding first
first-nothing p from zero e k h = absurd (not-suc-le-zero h)
first-nothing p from (suc n) e k h =
    let r = or-none (first p from n) (given (p (from + n)) (from + n)) e in
    ⊎_elim (λ s. rw s (given-none (p (from + n)) (from + n) r.1)) (λ l. first-nothing p from n r.0 k l) (eq-or-lt_of_le (le_of_suc-le-suc h))

pub first_absent : (p : ℕ → Bool) (from n : ℕ) → ((k : ℕ) → k < n → p (from + k) ≡ false) → first p from n ≡ None
unfolding first
first_absent p from zero h = refl
first_absent p from (suc n) h = rw (first_absent p from n (λ k l. h k (omega arith)), h n (omega arith)) refl
