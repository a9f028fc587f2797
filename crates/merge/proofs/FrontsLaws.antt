-- Laws of the head: each field is tested behind those in front of it.
use mathlib.Core.Bool.{Bool, cond, not, ◌||◌, true, false, true≢false}
use mathlib.Core.List.{List}
use mathlib.Core.Path.{◌≡◌, refl}
use Prim.Native.Nat.{ℕ, zero, suc, ◌<◌, ◌≤◌}
use native.Mathlib.Omega.{arith}
use borrow.Author.Tests.{ltb-false, eqb-true, eqb-false, lt-ltb, le-ltb, eq-eqb, ne_eqb}
use lib.Dec.{ltb, eqb}
use lib.ListN.{length}
use Rattle.smf.specs.Quantities.{two_at, four_at}
use Rattle.smf.specs.Head.{head_name, chunk_end}
use Rattle.smf.proofs.HeadLaws.{Named, Held}
use Rattle.smf.proofs.ItemsLaws.{either, neither}
use Rattle.merge.specs.declared.Front.{Front}
use Rattle.merge.specs.declared.Front.TheVariants.{Refused, Song}
use Rattle.merge.specs.Fronts.{count_number, front_of}

-- format 0 or 1
pub record Formed (b : List ℕ) : Type 0 where
  pub held : Held b
  pub format : two_at b 8 ≤ 1

-- a good number of tracks
pub record Counted (b : List ℕ) : Type 0 where
  pub formed : Formed b
  pub none : count_number (two_at b 8) (two_at b 10) ≡ 0

module _ (b : List ℕ) where
  -- no MThd
  pub front-unnamed : (four_at b 0 ≡ head_name → ⊥) → front_of b ≡ Refused 9 0
  unfolding front_of
  front-unnamed h = rw (ne_eqb _ _ h) refl

  -- below six
  pub front-short : Named b → four_at b 4 < 6 → front_of b ≡ Refused 9 4
  unfolding front_of
  front-short n h = rw (eq-eqb _ _ n.name, lt-ltb _ _ h) refl

  -- past the file
  pub front_long : Named b → 6 ≤ four_at b 4 → length b < chunk_end b 0 → front_of b ≡ Refused 9 4
  unfolding front_of
  front_long n h k = rw (eq-eqb _ _ n.name, le-ltb _ _ h, lt-ltb _ _ k) refl

  -- another format
  pub front-format : Held b → 1 < two_at b 8 → front_of b ≡ Refused 10 8
  unfolding front_of
  front-format n h = rw (eq-eqb _ _ n.named.name, le-ltb _ _ n.six, le-ltb _ _ n.in-file, lt-ltb _ _ h) refl

  -- a wrong number of tracks
  pub front-count : Formed b → (count_number (two_at b 8) (two_at b 10) ≡ 0 → ⊥) → front_of b ≡ Refused (count_number (two_at b 8) (two_at b 10)) 10
  unfolding front_of
  front-count n h =
      let k = n.held in
      rw (eq-eqb _ _ k.named.name, le-ltb _ _ k.six, le-ltb _ _ k.in-file, le-ltb _ _ n.format, ne_eqb _ _ h) refl

  -- no division
  pub front-undivided : Counted b → two_at b 12 ≡ 0 → front_of b ≡ Refused 9 12
  unfolding front_of
  front-undivided n h =
      let k = n.formed.held in
      rw (eq-eqb _ _ k.named.name, le-ltb _ _ k.six, le-ltb _ _ k.in-file, le-ltb _ _ n.formed.format, eq-eqb _ _ n.none, eq-eqb _ _ h) refl

  -- SMPTE
  pub front-smpte : Counted b → 32767 < two_at b 12 → front_of b ≡ Refused 10 12
  unfolding front_of
  front-smpte n h =
      let k = n.formed.held in
      let some : (two_at b 12 ≡ 0 → ⊥) = λ z. absurd (omega (arith, h, z)) in
      rw (eq-eqb _ _ k.named.name, le-ltb _ _ k.six, le-ltb _ _ k.in-file, le-ltb _ _ n.formed.format, eq-eqb _ _ n.none, ne_eqb _ _ some, lt-ltb _ _ h) refl

  -- a good head
  pub front-good : Counted b → (two_at b 12 ≡ 0 → ⊥) → two_at b 12 ≤ 32767 → front_of b ≡ Song (two_at b 10) (two_at b 12) (chunk_end b 0)
  unfolding front_of
  front-good n s h =
      let k = n.formed.held in
      rw (eq-eqb _ _ k.named.name, le-ltb _ _ k.six, le-ltb _ _ k.in-file, le-ltb _ _ n.formed.format, eq-eqb _ _ n.none, ne_eqb _ _ s, le-ltb _ _ h) refl

-- a good number of tracks is at most 256
pub few : (format count : ℕ) → count_number format count ≡ 0 → count ≤ 256
unfolding count_number
few format count e = test e
  where
    P : ℕ → Type 0
    P x = x ≡ 0 → count ≤ 256

    test : P (count_number format count)
    test =
        either P (eqb format 0) _ _
        (λ f. either P (eqb count 1) 0 9 (λ g h. let z = eqb-true count 1 g in omega (arith, z)) (λ g h. absurd (omega (arith, h))))
        (λ f. either P (eqb count 0) _ _ (λ g h. absurd (omega (arith, h))) (λ g. either P (ltb 256 count) 44 0 (λ k h. absurd (omega (arith, h))) (λ k h. ltb-false 256 count k)))

-- what is not 0 is 1 or more
positive : (n : ℕ) → (n ≡ 0 → ⊥) → 1 ≤ n
positive zero h = absurd (h refl)
positive (suc n) h = omega arith

-- what is not false is true
not-false : (t : Bool) → not t ≡ false → t ≡ true
not-false true e = refl
not-false false e = absurd (true≢false e)

-- what a good head says
abbrev pub FrontIn : List ℕ → Front → Type 0
FrontIn b (Refused number place) = Unit {0}
FrontIn b (Song count division at) = (count ≤ 256) × (at ≤ length b) × (1 ≤ division) × (division ≤ 32767)

pub front-in : (b : List ℕ) → FrontIn b (front_of b)
unfolding front_of
front-in b =
    let P = FrontIn b in
    either P (not (eqb (four_at b 0) head_name)) _ _ (λ e. tt)
    (λ e. either P (ltb (four_at b 4) 6 || ltb (length b) (chunk_end b 0)) _ _ (λ f. tt)
    (λ f. either P (ltb 1 (two_at b 8)) _ _ (λ g. tt)
    (λ g. either P (not (eqb (count_number (two_at b 8) (two_at b 10)) 0)) _ _ (λ h. tt)
    (λ h. either P (eqb (two_at b 12) 0) _ _ (λ k. tt)
    (λ k. either P (ltb 32767 (two_at b 12)) _ _ (λ l. tt)
    (λ l. good f h k l))))))
  where
    good : (ltb (four_at b 4) 6 || ltb (length b) (chunk_end b 0)) ≡ false → not (eqb (count_number (two_at b 8) (two_at b 10)) 0) ≡ false → eqb (two_at b 12) 0 ≡ false → ltb 32767 (two_at b 12) ≡ false → FrontIn b (Song (two_at b 10) (two_at b 12) (chunk_end b 0))
    good f h k l =
        let z = eqb-false (two_at b 12) 0 k in
        let some : 1 ≤ two_at b 12 = positive (two_at b 12) z in (
          few (two_at b 8) (two_at b 10) (eqb-true _ _ (not-false (eqb (count_number (two_at b 8) (two_at b 10)) 0) h)),
          ltb-false _ _ (neither (ltb (four_at b 4) 6) (ltb (length b) (chunk_end b 0)) f).1,
          some,
          ltb-false _ _ l,
        )
