-- The form, test by test.
use mathlib.Core.List.{List}
use mathlib.Core.Path.{◌≡◌, refl}
use Prim.Native.Nat.{ℕ, ◌+◌, ◌<◌, ◌≤◌}
use native.Mathlib.Omega.{arith}
use borrow.Author.Tests.{lt-ltb, le-ltb, eq-eqb, ne_eqb, eqb-true, eqb-false}
use lib.Dec.{eqb}
use lib.ListN.{length}
use Rattle.arith.specs.Bytes.{u32_at}
use Rattle.riff.specs.declared.form.Span.{Span}
use Rattle.riff.specs.Chunks.{list_name, size_at, body_end, stop_at}
use Rattle.riff.specs.Form.{riff_name, font_type, bank_type, data_type, refused_by, list_body, chunk_body, bank_at, data_at, data_span, samples_at, found_in, find_of}
use Rattle.riff.proofs.ChunksLaws.{whole_in, by-test, Hit, hit, list-typed}

module _ (b : List ℕ) (end : ℕ) where
  -- no sdta list
  pub span_none : data_at b end ≡ end → data_span b end ≡ record { from = end; end = end }
  unfolding data_span
  span_none e = rw (eq-eqb _ _ e) refl

  -- an sdta list
  pub span-some : (data_at b end ≡ end → ⊥) → data_span b end ≡ record { from = data_at b end + 12; end = body_end b (data_at b end) }
  unfolding data_span
  span-some h = rw (ne_eqb _ _ h) refl

  -- what it is
  pub data-hit : (data_at b end ≡ end → ⊥) → Hit b end list_name data_type 12 (data_at b end)
  unfolding data_at
  data-hit h = hit b end list_name data_type 12 h

  -- the span of the sdta list lies in the form
  pub span-in : ((data_span b end).from ≤ (data_span b end).end) × ((data_span b end).end ≤ end)
  span-in = by-test (eqb (data_at b end) end) (λ e. none (eqb-true _ _ e)) (λ e. some (eqb-false _ _ e))
    where
      none : data_at b end ≡ end → ((data_span b end).from ≤ (data_span b end).end) × ((data_span b end).end ≤ end)
      none e = rw (span_none e) (omega arith, omega arith)

      some : (data_at b end ≡ end → ⊥) → ((data_span b end).from ≤ (data_span b end).end) × ((data_span b end).end ≤ end)
      some h =
          let k = data-hit h in
          let t = list-typed b end data_type (data_at b end) k.whole k.named in
          rw (span-some h) (omega (arith, t), whole_in b end (data_at b end) k.whole)

  -- the pdta list
  pub bank-hit : (bank_at b end ≡ end → ⊥) → Hit b end list_name bank_type 12 (bank_at b end)
  unfolding bank_at
  bank-hit h = hit b end list_name bank_type 12 h

  module _ (s : Span) where
    -- a chunk of the sdta list is not whole
    pub in-broken : (stop_at b s.end s.from ≡ s.end → ⊥) → found_in b end s ≡ refused_by 41 (stop_at b s.end s.from)
    unfolding found_in
    in-broken h = rw (ne_eqb _ _ h) refl

    -- a chunk of the form is not whole
    pub in-form-broken : stop_at b s.end s.from ≡ s.end → (stop_at b end 12 ≡ end → ⊥) → found_in b end s ≡ refused_by 41 (stop_at b end 12)
    unfolding found_in
    in-form-broken e h = rw (eq-eqb _ _ e, ne_eqb _ _ h) refl

    -- no samples
    pub in-silent : stop_at b s.end s.from ≡ s.end → stop_at b end 12 ≡ end → samples_at b s ≡ s.end → found_in b end s ≡ refused_by 42 s.end
    unfolding found_in
    in-silent e f n = rw (eq-eqb _ _ e, eq-eqb _ _ f, eq-eqb _ _ n) refl

    -- no bank
    pub in-bankless : stop_at b s.end s.from ≡ s.end → stop_at b end 12 ≡ end → (samples_at b s ≡ s.end → ⊥) → bank_at b end ≡ end
        → found_in b end s ≡ refused_by 42 end
    unfolding found_in
    in-bankless e f m n = rw (eq-eqb _ _ e, eq-eqb _ _ f, ne_eqb _ _ m, eq-eqb _ _ n) refl

    -- both parts
    pub in-found : stop_at b s.end s.from ≡ s.end → stop_at b end 12 ≡ end → (samples_at b s ≡ s.end → ⊥) → (bank_at b end ≡ end → ⊥)
        → found_in b end s ≡ record { number = 0; place = 0; bank = list_body b (bank_at b end); samples = chunk_body b (samples_at b s) }
    unfolding found_in
    in-found e f m n = rw (eq-eqb _ _ e, eq-eqb _ _ f, ne_eqb _ _ m, ne_eqb _ _ n) refl

module _ (b : List ℕ) where
  -- no RIFF
  pub find-other : (u32_at b 0 ≡ riff_name → ⊥) → find_of b ≡ refused_by 40 0
  unfolding find_of
  find-other h = rw (ne_eqb _ _ h) refl

  -- another type
  pub find-other-type : u32_at b 0 ≡ riff_name → (u32_at b 8 ≡ font_type → ⊥) → find_of b ≡ refused_by 40 8
  unfolding find_of
  find-other-type e h = rw (eq-eqb _ _ e, ne_eqb _ _ h) refl

  -- no room for the type
  pub find-untyped : u32_at b 0 ≡ riff_name → u32_at b 8 ≡ font_type → size_at b 0 < 4 → find_of b ≡ refused_by 41 0
  unfolding find_of
  find-untyped e f h = rw (eq-eqb _ _ e, eq-eqb _ _ f, lt-ltb _ _ h) refl

  -- past the file
  pub find-long : u32_at b 0 ≡ riff_name → u32_at b 8 ≡ font_type → 4 ≤ size_at b 0 → length b < body_end b 0 → find_of b ≡ refused_by 41 0
  unfolding find_of
  find-long e f h k = rw (eq-eqb _ _ e, eq-eqb _ _ f, le-ltb _ _ h, lt-ltb _ _ k) refl

  -- a form
  pub find-form : u32_at b 0 ≡ riff_name → u32_at b 8 ≡ font_type → 4 ≤ size_at b 0 → body_end b 0 ≤ length b
      → find_of b ≡ found_in b (body_end b 0) (data_span b (body_end b 0))
  unfolding find_of
  find-form e f h k = rw (eq-eqb _ _ e, eq-eqb _ _ f, le-ltb _ _ h, le-ltb _ _ k) refl
