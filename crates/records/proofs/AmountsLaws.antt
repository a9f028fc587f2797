-- Laws of `poured`: what stands at each place, and one generator more.
use mathlib.Core.Bool.{false, Bool, true}
use Prim.Native.Nat.{ℕ, zero, suc, ◌+◌, ◌≤◌, ◌<◌}
use mathlib.Core.List.{List, [], ◌∷◌}
use mathlib.Core.Path.{◌≡◌, refl, ap, sym, ◌∙◌}
use borrow.Author.Tests.{eqb-true, eqb-false}
use native.Mathlib.Nat.{zero-add, add-zero, not-suc-le-zero}
use native.Mathlib.Omega.{arith}
use lib.Dec.{eqb}
use lib.IntN.{ℤ, pos}
use lib.ListN.{length, get_or, set, length-set}
use lib.Seq.{get_or-set_same, get_or-set_other, ext_get_or, set_out}
use Rattle.records.specs.declared.Zone.{Zone}
use Rattle.records.specs.Internal.Amounts.{poured_from, poured}
use Rattle.records.proofs.LookingLaws.{last_none, last-hit, last-miss}
use Rattle.records.specs.Sides.{operator, signed}
use Rattle.records.specs.Zones.{has, last_of, amount_in, value}
use Rattle.records.specs.declared.Side.{Side}

-- the first n generators from a place on, as a zone
abbrev pub front : ℕ → ℕ → Zone
front from n = record { from = from; count = n; sounding = false; link = 0 }

module _ (b : List ℕ) (s : Side) where
  pub length_from : (z : Zone) (o : ℕ) (d : List ℤ) → length (poured_from b s z o d) ≡ length d
  unfolding poured_from
  length_from z o [] = refl
  length_from z o (x ∷ xs) = ap suc (length_from z (suc o) xs)

  pub length-poured : (z : Zone) (d : List ℤ) → length (poured b s z d) ≡ length d
  unfolding poured
  length-poured z d = length_from z 0 d

  from_at : (z : Zone) (o : ℕ) (d : List ℤ) (i : ℕ) (x : ℤ) → i < length d → get_or (poured_from b s z o d) i x ≡ amount_in b s z (get_or d i x) (o + i)
  unfolding poured_from
  from_at z o [] i x h = absurd (not-suc-le-zero h)
  from_at z o (y ∷ ys) zero x h = rw add-zero refl
  from_at z o (y ∷ ys) (suc i) x h =
      let e : o + suc i ≡ suc o + i = omega arith in
      rw e (from_at z (suc o) ys i x (omega arith))

  -- what stands at place i
  pub poured-at : (z : Zone) (d : List ℤ) (i : ℕ) (x : ℤ) → i < length d → get_or (poured b s z d) i x ≡ amount_in b s z (get_or d i x) i
  unfolding poured
  poured-at z d i x h = from_at z 0 d i x h ∙ rw zero-add refl

  -- the global zone's amounts, then the local zone's over them, are the values
  pub poured-value : (local global : Zone) (d : List ℤ) (i : ℕ) (x : ℤ) → i < length d → get_or (poured b s local (poured b s global d)) i x ≡ value b s local global (get_or d i x) i
  unfolding value
  poured-value local global d i x h =
      poured-at local (poured b s global d) i x (rw (length-poured global d) h) ∙ rw (poured-at global d i x h) refl

  from_front : (z : Zone) (o : ℕ) (d : List ℤ) → poured_from b s (front z.from z.count) o d ≡ poured_from b s z o d
  unfolding poured_from amount_in last_of
  from_front z o [] = refl
  from_front z o (x ∷ xs) = rw (from_front z (suc o) xs) refl

  -- a zone's amounts hang on its first generator and their number alone
  pub poured-front : (z : Zone) (d : List ℤ) → poured b s (front z.from z.count) d ≡ poured b s z d
  unfolding poured
  poured-front z d = from_front z 0 d

  -- what one generator more does to the amount of one operator
  next-hit : (from n i : ℕ) (x : ℤ) → eqb (operator b s (from + n)) i ≡ true → amount_in b s (front from (n + 1)) x i ≡ signed b s (from + n)
  unfolding amount_in last_of has
  next-hit from n i x e = rw (last-hit (has b s i) from n e) refl

  next-miss : (from n i : ℕ) (x : ℤ) → eqb (operator b s (from + n)) i ≡ false → amount_in b s (front from (n + 1)) x i ≡ amount_in b s (front from n) x i
  unfolding amount_in last_of has
  next-miss from n i x e = rw (last-miss (has b s i) from n e) refl

  none_in : (from i : ℕ) (x : ℤ) → amount_in b s (front from 0) x i ≡ x
  unfolding amount_in last_of
  none_in from i x = rw (last_none (has b s i) from) refl

  -- no generator changes nothing
  pub poured-none : (from : ℕ) (d : List ℤ) → poured b s (front from 0) d ≡ d
  poured-none from d =
      ext_get_or (pos 0) (poured b s (front from 0) d) d (length-poured (front from 0) d) (λ i h.
      poured-at (front from 0) d i (pos 0) (rw (length-poured (front from 0) d) at h) ∙ none_in from i (get_or d i (pos 0)))

  -- one generator more is one store
  pub poured-next : (from n : ℕ) (d : List ℤ) → poured b s (front from (n + 1)) d ≡ set (poured b s (front from n) d) (operator b s (from + n)) (signed b s (from + n))
  poured-next from n d =
      ext_get_or (pos 0) (poured b s (front from (n + 1)) d) (set l o v) lengths (λ i h. each i (rw (length-poured (front from (n + 1)) d) at h) (eqb o i) refl)
    where
      o : ℕ
      o = operator b s (from + n)

      v : ℤ
      v = signed b s (from + n)

      l : List ℤ
      l = poured b s (front from n) d

      lengths : length (poured b s (front from (n + 1)) d) ≡ length (set l o v)
      lengths = rw (length-poured (front from (n + 1)) d, length-set, length-poured (front from n) d) refl

      each : (i : ℕ) → i < length d → (t : Bool) → eqb o i ≡ t → get_or (poured b s (front from (n + 1)) d) i (pos 0) ≡ get_or (set l o v) i (pos 0)
      each i h true e =
          let same : o ≡ i = eqb-true o i e in
          let room : o < length l = rw (length-poured (front from n) d) (omega arith) in
          poured-at (front from (n + 1)) d i (pos 0) h ∙ next-hit from n i (get_or d i (pos 0)) e ∙ sym (rw (← same) (get_or-set_same l o v (pos 0) room))
      each i h false e =
          poured-at (front from (n + 1)) d i (pos 0) h ∙ next-miss from n i (get_or d i (pos 0)) e ∙ sym (poured-at (front from n) d i (pos 0) h) ∙ sym (get_or-set_other l o i v (pos 0) (λ q. eqb-false o i e (sym q)))

  -- the same as a loop wants it: the generator's operator has a place, or has none
  pub pour-store : (d a : List ℤ) (from n o : ℕ) (v : ℤ) → a ≡ poured b s (front from n) d → o ≡ operator b s (from + n) → v ≡ signed b s (from + n) → set a o v ≡ poured b s (front from (n + 1)) d
  pour-store d a from n o v e at amount = rw (e, at, amount) (sym (poured-next from n d))

  pub pour-pass : (d a : List ℤ) (from n o : ℕ) → a ≡ poured b s (front from n) d → o ≡ operator b s (from + n) → length d ≤ o → a ≡ poured b s (front from (n + 1)) d
  pour-pass d a from n o e at h =
      let none : length (poured b s (front from n) d) ≤ operator b s (from + n) = rw (length-poured (front from n) d, ← at) h in
      e ∙ sym (set_out (poured b s (front from n) d) (operator b s (from + n)) (signed b s (from + n)) none) ∙ sym (poured-next from n d)
