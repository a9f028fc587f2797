-- Laws of a word's slots. Each goes by halves, where `omega` does the arithmetic.
use mathlib.Core.Path.{◌≡◌, ap, sym, ◌∙◌, refl, ap₂}
use Prim.Native.Nat.{ℕ, ◌%◌, suc, ◌/◌, ◌^◌, ◌+◌, zero, ◌-◌, ◌*◌, ◌≤◌, ◌<◌}
use native.Mathlib.Nat.{div-one, pow-suc, div-div-eq-div-mul, mul_comm, one-mul, mod-eq_of_lt, div_self, zero-div, pow-zero}
use lib.Count.{ones, ones_step, count_trailing_zeros}
use native.Mathlib.Omega.{arith}
use lib.Pow.{pow-lt, pow_pos}
use lib.Bits.{bit_and, and_shr, and_mod, bit_or, or_shr, or_mod, or_zero_r}
use mathlib.Core.Bool.{Bool, cond}
use mathlib.Core.List.{List, [], ◌∷◌, map}
use lib.Dec.{eqb}
use mathlib.Core.Logic.{◌⊎◌, inl, inr, ⊎_elim}
use Rattle.arith.specs.Words.{bit}
use Rattle.arith.specs.Internal.Words.{With, lowest_clear}
use Rattle.arith.specs.Lists.{count_if}

pub bit-zero : (n : ℕ) → bit n 0 ≡ n % 2
bit-zero n = ap (λ (x : ℕ). x % 2) (div-one n)

pub bit-suc : (n j : ℕ) → bit n (suc j) ≡ bit (n / 2) j
bit-suc n j = ap (λ (x : ℕ). n / x % 2) (pow-suc 2 j ∙ mul_comm (2 ^ j) 2) ∙ ap (λ (x : ℕ). x % 2) (sym (div-div-eq-div-mul n 2 (2 ^ j)))

-- slot t is taken out of the set n, and every other slot stays
pub record Out (n t m : ℕ) : Type 0 where
  pub gone : bit m t ≡ 0
  pub kept : (j : ℕ) → (j ≡ t → ⊥) → bit m j ≡ bit n j
  pub count : ones n ≡ ones m + 1

pub clear : (n t : ℕ) → bit n t ≡ 1 → (2 ^ t ≤ n) × Out n t (n - 2 ^ t)
clear n zero h =
    let o : n % 2 ≡ 1 = sym (bit-zero n) ∙ h in
    let half : (n - 1) / 2 ≡ n / 2 = omega arith in
    let even : (n - 1) % 2 ≡ 0 = omega arith in
    (omega arith, record { gone = bit-zero (n - 1) ∙ even; kept = same half; count = counted o half even })
  where
    same : (n - 1) / 2 ≡ n / 2 → (j : ℕ) → (j ≡ 0 → ⊥) → bit (n - 1) j ≡ bit n j
    same e zero f = absurd (f refl)
    same e (suc j) f = bit-suc (n - 1) j ∙ ap (λ (x : ℕ). bit x j) e ∙ sym (bit-suc n j)

    counted : n % 2 ≡ 1 → (n - 1) / 2 ≡ n / 2 → (n - 1) % 2 ≡ 0 → ones n ≡ ones (n - 1) + 1
    counted o e z = omega (arith, ones_step n, ones_step (n - 1), ap ones e)
clear n (suc t) h =
    let ih = clear (n / 2) t (sym (bit-suc n t) ∙ h) in
    let p : 2 ^ suc t ≡ 2 ^ t * 2 = pow-suc 2 t in
    let le = ih.0 in
    let half : (n - 2 ^ suc t) / 2 ≡ n / 2 - 2 ^ t = omega arith in
    let low : (n - 2 ^ suc t) % 2 ≡ n % 2 = omega arith in
    (omega arith, record { gone = bit-suc (n - 2 ^ suc t) t ∙ ap (λ (x : ℕ). bit x t) half ∙ ih.1.gone; kept = same ih.1.kept half low; count = counted ih.1.count half low })
  where
    m : ℕ
    m = n - 2 ^ suc t

    same : ((j : ℕ) → (j ≡ t → ⊥) → bit (n / 2 - 2 ^ t) j ≡ bit (n / 2) j) → (n - 2 ^ suc t) / 2 ≡ n / 2 - 2 ^ t → (n - 2 ^ suc t) % 2 ≡ n % 2
        → (j : ℕ) → (j ≡ suc t → ⊥) → bit (n - 2 ^ suc t) j ≡ bit n j
    same k e l zero f = bit-zero (n - 2 ^ suc t) ∙ l ∙ sym (bit-zero n)
    same k e l (suc j) f = bit-suc (n - 2 ^ suc t) j ∙ ap (λ (x : ℕ). bit x j) e ∙ k j (λ q. f (ap suc q)) ∙ sym (bit-suc n j)

    counted : ones (n / 2) ≡ ones (n / 2 - 2 ^ t) + 1 → (n - 2 ^ suc t) / 2 ≡ n / 2 - 2 ^ t → (n - 2 ^ suc t) % 2 ≡ n % 2 → ones n ≡ ones (n - 2 ^ suc t) + 1
    counted k e l = omega (arith, ones_step n, ones_step (n - 2 ^ suc t), ap ones e)

-- `!n`, of a word of k bits
pub bit_not : (k n j : ℕ) → n < 2 ^ k → j < k → bit ((2 ^ k - 1) - n) j ≡ 1 - bit n j
bit_not zero n j h l = absurd (no j l)
  where
    no : (j : ℕ) → j < 0 → ⊥
    no j h = omega arith
bit_not (suc k) n zero h l =
    let p = pow-suc 2 k in
    let e : ((2 ^ suc k - 1) - n) % 2 ≡ 1 - n % 2 = omega arith in
    bit-zero ((2 ^ suc k - 1) - n) ∙ e ∙ ap (λ (x : ℕ). 1 - x) (sym (bit-zero n))
bit_not (suc k) n (suc j) h l =
    let p = pow-suc 2 k in
    let e : ((2 ^ suc k - 1) - n) / 2 ≡ (2 ^ k - 1) - n / 2 = omega arith in
    bit-suc ((2 ^ suc k - 1) - n) j ∙ ap (λ (x : ℕ). bit x j) e ∙ bit_not k (n / 2) j (omega arith) (omega arith)
    ∙ ap (λ (x : ℕ). 1 - x) (sym (bit-suc n j))

-- `1 << t` at a word of k bits
pub one_shl : (k t : ℕ) → t < k → (1 * 2 ^ t) % 2 ^ k ≡ 2 ^ t
one_shl k t h = ap (λ (x : ℕ). x % 2 ^ k) (one-mul (2 ^ t)) ∙ mod-eq_of_lt (pow-lt h)

-- ---- masks: no test of what is in the set before
pub bit-and : (a b j : ℕ) → bit (bit_and a b) j ≡ bit_and (bit a j) (bit b j)
bit-and a b j = ap (λ (x : ℕ). x % 2) (and_shr a b j) ∙ and_mod (a / 2 ^ j) (b / 2 ^ j) 1

pub bit-or : (a b j : ℕ) → bit (bit_or a b) j ≡ bit_or (bit a j) (bit b j)
bit-or a b j = ap (λ (x : ℕ). x % 2) (or_shr a b j) ∙ or_mod (a / 2 ^ j) (b / 2 ^ j) 1

one_at : (t : ℕ) → bit (2 ^ t) t ≡ 1
one_at t = ap (λ (x : ℕ). x % 2) (div_self (pow_pos t))

none-at : (t j : ℕ) → (j ≡ t → ⊥) → bit (2 ^ t) j ≡ 0
none-at t j f =
    let e : 2 ^ t - 2 ^ t ≡ 0 = omega arith in
    sym ((clear (2 ^ t) t (one_at t)).1.kept j f) ∙ ap (λ (x : ℕ). bit x j) e ∙ ap (λ (x : ℕ). x % 2) (zero-div (2 ^ j))

or-one : (x : ℕ) → x < 2 → bit_or x 1 ≡ 1
or-one zero h = refl
or-one (suc zero) h = refl
or-one (suc (suc x)) h = absurd (no x h)
  where
    no : (x : ℕ) → suc (suc x) < 2 → ⊥
    no x h = omega arith

and_one : (x : ℕ) → x < 2 → bit_and x 1 ≡ x
and_one zero h = refl
and_one (suc zero) h = refl
and_one (suc (suc x)) h = absurd (no x h)
  where
    no : (x : ℕ) → suc (suc x) < 2 → ⊥
    no x h = omega arith

pub insert : (n t : ℕ) → With n t 1 (bit_or n (2 ^ t))
insert n t = record {
  here = bit-or n (2 ^ t) t ∙ ap (bit_or (bit n t)) (one_at t) ∙ or-one (bit n t) (omega arith);
  kept = λ j l f. bit-or n (2 ^ t) j ∙ ap (bit_or (bit n j)) (none-at t j f) ∙ or_zero_r (bit n j);
}

-- whether each of the first k slots is in the set
unfoldable pub flags_of : ℕ → ℕ → List Bool
flags_of zero word = []
flags_of (suc k) word = eqb (word % 2) 1 ∷ flags_of k (word / 2)

-- a slot is in the set or not
digit : (n : ℕ) → (n % 2 ≡ 0) ⊎ (n % 2 ≡ 1)
digit n = by (n % 2) refl
  where
    by : (d : ℕ) → n % 2 ≡ d → (n % 2 ≡ 0) ⊎ (n % 2 ≡ 1)
    by zero e = inl e
    by (suc d) e = let h : n % 2 ≡ 1 = omega arith in inr h

no-slots : (n : ℕ) → lowest_clear 0 n ≡ 0
unfolding lowest_clear
no-slots n = refl

next-in : (k n : ℕ) → n % 2 ≡ 1 → lowest_clear (suc k) n ≡ suc (lowest_clear k (n / 2))
unfolding lowest_clear
next-in k n e = rw e

next-out : (k n : ℕ) → n % 2 ≡ 0 → lowest_clear (suc k) n ≡ 0
unfolding lowest_clear
next-out k n e = rw e

-- t is the lowest of k slots that is clear: those below it are set, and it is k where all are
pub record Lowest (k n t : ℕ) : Type 0 where
  pub within : t ≤ k
  pub clear : t < k → bit n t ≡ 0
  pub below : (j : ℕ) → j < t → bit n j ≡ 1

none_below : (j : ℕ) → j < 0 → ⊥
none_below j h = omega arith

pub lowest : (k n : ℕ) → Lowest k n (lowest_clear k n)
lowest zero n = rw (no-slots n) (record { within = omega arith; clear = λ h. absurd (none_below 0 h); below = λ j h. absurd (none_below j h) })
lowest (suc k) n = ⊎_elim out (kept (lowest k (n / 2))) (digit n)
  where
    out : n % 2 ≡ 0 → Lowest (suc k) n (lowest_clear (suc k) n)
    out e = rw (next-out k n e) (record { within = omega arith; clear = λ h. bit-zero n ∙ e; below = λ j h. absurd (none_below j h) })

    kept : Lowest k (n / 2) (lowest_clear k (n / 2)) → n % 2 ≡ 1 → Lowest (suc k) n (lowest_clear (suc k) n)
    kept r e = rw (next-in k n e) (record {
      within = omega (arith, r.within);
      clear = λ h. bit-suc n (lowest_clear k (n / 2)) ∙ r.clear (omega arith);
      below = low;
    })
      where
        low : (j : ℕ) → j < suc (lowest_clear k (n / 2)) → bit n j ≡ 1
        low zero h = bit-zero n ∙ e
        low (suc j) h = bit-suc n j ∙ r.below j (omega arith)

-- the trailing zeros of the complement
pub lowest-zeros : (k n : ℕ) → n < 2 ^ k → count_trailing_zeros k ((2 ^ k - 1) - n) ≡ lowest_clear k n
unfolding count_trailing_zeros lowest_clear
lowest-zeros zero n h = refl
lowest-zeros (suc k) n h =
    let p = pow-suc 2 k in
    let half : ((2 ^ suc k - 1) - n) / 2 ≡ (2 ^ k - 1) - n / 2 = omega arith in
    let low : ((2 ^ suc k - 1) - n) % 2 ≡ 1 - n % 2 = omega arith in
    rw (half, low, lowest-zeros k (n / 2) (omega arith)) (⊎_elim (λ e. rw e) (λ e. rw e) (digit n))

-- the ones of a word of k bits: how many of its flags are up
pub ones-flags : (k n : ℕ) → n < 2 ^ k → ones n ≡ count_if (λ (b : Bool). b) (flags_of k n)
unfolding flags_of ones
ones-flags zero n h = ap ones z ∙ refl
  where
    z : n ≡ 0
    z = omega (arith, pow-zero 2)
ones-flags (suc k) n h =
    let ih = ones-flags k (n / 2) (omega (arith, pow-suc 2 k)) in
    ones_step n ∙ ap₂ (λ (a b : ℕ). a + b) (⊎_elim (λ e. rw e) (λ e. rw e) (digit n)) ih

-- a count over slots is the count of their flags
pub count_map : {A : Type 0} (p : A → Bool) (xs : List A) → count_if p xs ≡ count_if (λ (b : Bool). b) (map p xs)
count_map p [] = refl
count_map p (x ∷ xs) = ap (◌+◌ (cond (p x) 1 0)) (count_map p xs)
