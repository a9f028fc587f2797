-- Bytes behind the form change nothing.
use mathlib.Core.Bool.{true}
use mathlib.Core.List.{List, ◌++◌}
use mathlib.Core.Path.{◌≡◌, refl}
use Prim.Native.Nat.{ℕ, zero, suc, ◌+◌, ◌≤◌}
use native.Mathlib.Omega.{arith}
use borrow.Author.Tests.{leb-true, leb-false, lt-leb, le-ltb, eqb-false}
use lib.Dec.{eqb, leb}
use lib.ListN.{length, length-append, get_or-append}
use Rattle.arith.specs.Bytes.{u8_at, u32_at}
use Rattle.riff.specs.declared.form.Span.{Span}
use Rattle.riff.specs.Chunks.{list_name, size_at, body_end, least_size, type_at, is_whole, is_named, next_at, stop_from, first_from, stop_at, first_at}
use Rattle.riff.specs.Form.{list_body, chunk_body, bank_type, data_type, samples_name, bank_at, data_at, data_span, samples_at, found_in, find_of}
use Rattle.riff.specs.Places.{TailIgnored}
use Rattle.riff.proofs.ChunksLaws
use Rattle.riff.proofs.FormLaws

module _ (b more : List ℕ) where
  -- four bytes of the file
  pub same-four : (at : ℕ) → at + 4 ≤ length b → u32_at (b ++ more) at ≡ u32_at b at
  unfolding u32_at u8_at
  same-four at h =
      rw (get_or-append b more 0 at (omega arith), get_or-append b more 0 (at + 1) (omega arith), get_or-append b more 0 (at + 2) (omega arith), get_or-append b more 0 (at + 3) (omega arith)) refl

  module _ (end : ℕ) (h : end ≤ length b) where
    -- whether a chunk is whole
    pub same_whole : (at : ℕ) → is_whole (b ++ more) end at ≡ is_whole b end at
    unfolding is_whole least_size
    same_whole at =
        ChunksLaws.by-test (leb (at + 8) end)
        (λ e. let k = leb-true (at + 8) end e in rw (same-four at (omega arith), same-four (at + 4) (omega arith)) refl)
        (λ e. let k = leb-false (at + 8) end e in
        rw (lt-leb (at + 8 + u32_at (b ++ more) (at + 4)) end (omega arith), lt-leb (at + 8 + u32_at b (at + 4)) end (omega arith)) refl)

    -- the size of a whole chunk
    pub same_size : (at : ℕ) → is_whole b end at ≡ true → size_at (b ++ more) at ≡ size_at b at
    same_size at w = let k = ChunksLaws.whole_in b end at w in same-four (at + 4) (omega arith)

    -- the place behind it
    pub same_next : (at : ℕ) → is_whole b end at ≡ true → next_at (b ++ more) end at ≡ next_at b end at
    unfolding next_at
    same_next at w = rw (same_size at w) refl

    -- its name and type
    pub same-named : (at name kind : ℕ) → is_whole b end at ≡ true → is_named (b ++ more) name kind at ≡ is_named b name kind at
    unfolding is_named type_at least_size
    same-named at name kind w =
        let k = ChunksLaws.whole_in b end at w in
        let t = ChunksLaws.whole-least b end at w in
        let n = same-four at (omega arith) in
        ChunksLaws.by-test (eqb (u32_at b at) list_name)
        (λ e. let four : 4 ≤ size_at b at = rw e at t in rw (n, e, same-four (at + 8) (omega arith)) refl)
        (λ e. rw (n, e) refl)

    -- where a walk stops
    pub same-stop-from : (n at : ℕ) → stop_from n (b ++ more) end at ≡ stop_from n b end at
    unfolding stop_from
    same-stop-from zero at = refl
    same-stop-from (suc n) at =
        ChunksLaws.by-test (is_whole b end at)
        (λ e. rw (same_whole at, e, same_next at e) (same-stop-from n (next_at b end at)))
        (λ e. rw (same_whole at, e) refl)

    -- what a search finds
    pub same-first-from : (n name kind at : ℕ) → first_from n (b ++ more) end name kind at ≡ first_from n b end name kind at
    unfolding first_from
    same-first-from zero name kind at = refl
    same-first-from (suc n) name kind at =
        ChunksLaws.by-test (is_whole b end at)
        (λ e. ChunksLaws.by-test (is_named b name kind at)
        (λ o. rw (same_whole at, e, same-named at name kind e, o) refl)
        (λ o. rw (same_whole at, e, same-named at name kind e, o, same_next at e) (same-first-from n name kind (next_at b end at))))
        (λ e. rw (same_whole at, e) refl)

    -- .. with as many turns as bytes
    pub same_stop : (at : ℕ) → stop_at (b ++ more) end at ≡ stop_at b end at
    unfolding stop_at
    same_stop at = same-stop-from end at

    pub same_first : (name kind at : ℕ) → first_at (b ++ more) end name kind at ≡ first_at b end name kind at
    unfolding first_at
    same_first name kind at = same-first-from end name kind at

    -- the lists
    pub same-bank : bank_at (b ++ more) end ≡ bank_at b end
    unfolding bank_at
    same-bank = same_first list_name bank_type 12

    pub same-data : data_at (b ++ more) end ≡ data_at b end
    unfolding data_at
    same-data = same_first list_name data_type 12

    -- the span of the sdta list
    pub same_span : data_span (b ++ more) end ≡ data_span b end
    unfolding data_span
    same_span =
        ChunksLaws.by-test (eqb (data_at b end) end) (λ e. rw (same-data, e) refl)
        (λ e. rw (same-data, e, same_size (data_at b end) (FormLaws.data-hit b end (eqb-false (data_at b end) end e)).whole) refl)

module _ (b more : List ℕ) (end : ℕ) (h : end ≤ length b) (at : ℕ) (w : is_whole b end at ≡ true) where
  -- the body of a list
  pub same-list : list_body (b ++ more) at ≡ list_body b at
  unfolding list_body
  same-list = rw (same_size b more end h at w) refl

  -- .. and of a chunk
  pub same-chunk : chunk_body (b ++ more) at ≡ chunk_body b at
  unfolding chunk_body
  same-chunk = rw (same_size b more end h at w) refl

-- what the form holds
pub same-found : (b more : List ℕ) (end : ℕ) (s : Span) → end ≤ length b → s.end ≤ length b → found_in (b ++ more) end s ≡ found_in b end s
unfolding found_in samples_at
same-found b more end s h k =
    let inner = same_stop b more s.end k s.from in
    let outer = same_stop b more end h 12 in
    let p = same_first b more s.end k samples_name 0 s.from in
    let q = same-bank b more end h in
    let sample = first_at b s.end samples_name 0 s.from in
    ChunksLaws.by-test (eqb sample s.end) (λ e. rw (inner, outer, p, e) refl)
    (λ e. ChunksLaws.by-test (eqb (bank_at b end) end) (λ f. rw (inner, outer, p, e, q, f) refl)
    (λ f. let there = (ChunksLaws.hit b s.end samples_name 0 s.from (eqb-false sample s.end e)).whole in
    let list = (FormLaws.bank-hit b end (eqb-false (bank_at b end) end f)).whole in
    rw (inner, outer, p, e, q, f, same-list b more end h (bank_at b end) list, same-chunk b more s.end k sample there) refl))

pub tail-ignored : TailIgnored
unfolding find_of
tail-ignored b more h k =
    let span = (FormLaws.span-in b (body_end b 0)).1 in
    let long : body_end b 0 ≤ length (b ++ more) = rw (length-append b more) (omega arith) in
    rw (same-four b more 0 (omega arith), same-four b more 8 (omega arith), same-four b more 4 (omega arith), le-ltb _ _ long, le-ltb _ _ k, same_span b more (body_end b 0) k, same-found b more (body_end b 0) (data_span b (body_end b 0)) k (omega arith))
    refl
