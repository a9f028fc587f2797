-- Walks: the places that a walk reaches, where it stops, and what a search finds among them.
use mathlib.Core.Bool.{true, false}
use mathlib.Core.List.{List}
use mathlib.Core.Logic.{◌⊎◌, inl, inr, ⊎_elim}
use mathlib.Core.Path.{◌≡◌, refl, sym, ◌∙◌}
use Prim.Native.Nat.{ℕ, zero, suc, ◌+◌, ◌<◌, ◌≤◌}
use native.Mathlib.Omega.{arith}
use borrow.Author.Tests.{le-leb, eq-eqb, eqb-true, eqb-false}
use lib.Dec.{eqb}
use Rattle.arith.specs.Bytes.{u32_at}
use Rattle.riff.specs.Chunks.{list_name, least_size, type_at, is_whole, is_named, next_at, stop_from, stop_at, first_from, first_at}
use Rattle.riff.specs.Form.{samples_name}
use Rattle.riff.specs.Faults.{WholeChunk, Walked, at-start, behind-whole, Broken, ChunkOf, FirstOf, IsList, IsSamples}
use Rattle.riff.proofs.ChunksLaws

module _ (b : List ℕ) (end at : ℕ) where
  -- what the test of a chunk says
  pub whole_of : is_whole b end at ≡ true → WholeChunk b end at
  unfolding least_size
  whole_of h =
      record {
        body-in = ChunksLaws.whole_in b end at h;
        typed = λ e. rw (eq-eqb _ _ e) at (ChunksLaws.whole-least b end at h);
      }

  -- .. and the other way round
  pub of-whole : WholeChunk b end at → is_whole b end at ≡ true
  unfolding is_whole least_size
  of-whole w =
      ChunksLaws.by-test (eqb (u32_at b at) list_name)
      (λ e. rw (le-leb _ _ w.body-in, e, le-leb _ _ (w.typed (eqb-true _ _ e))) refl)
      (λ e. rw (le-leb _ _ w.body-in, e, le-leb 0 (u32_at b (at + 4)) (omega arith)) refl)

  -- a chunk that is not whole is not tested to be
  pub not-whole : (WholeChunk b end at → ⊥) → is_whole b end at ≡ false
  not-whole h = ChunksLaws.by-test (is_whole b end at) (λ e. absurd (h (whole_of e))) (λ e. e)

  -- .. and the other way round
  pub whole-not : is_whole b end at ≡ false → WholeChunk b end at → ⊥
  whole-not e w = let z = sym e ∙ of-whole w in let n : ◌≡◌ {A = ℕ} 0 1 = cc in omega arith

  -- the next place is behind the chunk
  pub next-behind : WholeChunk b end at → at + 8 + u32_at b (at + 4) ≤ next_at b end at
  unfolding next_at
  next-behind w = omega (arith, w.body-in)

-- a walk from a place that was reached stops at the same place
pub stop-same : (b : List ℕ) (end from at : ℕ) → Walked b end from at → stop_at b end from ≡ stop_at b end at
stop-same b end from at at-start = refl
stop-same b end from at (behind-whole p r w) = stop-same b end from p r ∙ ChunksLaws.stop-further b end p (of-whole b end p w)

-- a walk goes on, and not past the end
pub reached-in : (b : List ℕ) (end from at : ℕ) → from ≤ end → Walked b end from at → (from ≤ at) × (at ≤ end)
reached-in b end from at h at-start = (omega arith, h)
reached-in b end from at h (behind-whole p r w) =
    let k = reached-in b end from p h r in
    let n = ChunksLaws.next-in b end p (of-whole b end p w) in
    (omega (arith, k.0, n.0), n.1)

-- one more chunk in front
pub reach-on : (b : List ℕ) (end from at : ℕ) → WholeChunk b end from → Walked b end (next_at b end from) at → Walked b end from at
reach-on b end from at w at-start = behind-whole from at-start w
reach-on b end from at w (behind-whole p r v) = behind-whole p (reach-on b end from p w r) v

-- where a walk of so many turns stops, no whole chunk is, if there were turns enough
pub stop-from-reached : (n : ℕ) (b : List ℕ) (end from : ℕ) → end ≤ from + n → Walked b end from (stop_from n b end from) × (is_whole b end (stop_from n b end from) ≡ false)
unfolding stop_from
stop-from-reached zero b end from h = (at-start, ChunksLaws.past-not-whole b end from (omega arith))
stop-from-reached (suc n) b end from h =
    ChunksLaws.by-test (is_whole b end from)
    (λ e. let k = stop-from-reached n b end (next_at b end from) (omega (arith, ChunksLaws.next-in b end from e)) in
    rw (ChunksLaws.stop-turn b end from n e) (reach-on b end from _ (whole_of b end from e) k.0, k.1))
    (λ e. rw (ChunksLaws.stop-here b end from (suc n) e) (at-start, e))

module _ (b : List ℕ) (end from : ℕ) where
  -- the place where it stops is reached
  pub stop-reached : Walked b end from (stop_at b end from)
  unfolding stop_at
  stop-reached = (stop-from-reached end b end from (omega arith)).0

  -- .. and has no whole chunk
  pub stop-not-whole : is_whole b end (stop_at b end from) ≡ false
  unfolding stop_at
  stop-not-whole = (stop-from-reached end b end from (omega arith)).1

  module _ (h : from ≤ end) where
    -- a walk that does not come to the end stops at a broken chunk
    pub stop-broken : (stop_at b end from ≡ end → ⊥) → Broken b end from (stop_at b end from)
    stop-broken n =
        let i = reached-in b end from (stop_at b end from) h stop-reached in
        record { reached = stop-reached; more = omega (arith, i.1, n); not-whole = whole-not b end _ stop-not-whole }

    -- a broken chunk is where it stops
    pub broken-stop : (at : ℕ) → Broken b end from at → stop_at b end from ≡ at
    broken-stop at k = stop-same b end from at k.reached ∙ ChunksLaws.stop-done b end at (not-whole b end at k.not-whole)

    -- a walk that comes to the end has none
    pub end-unbroken : stop_at b end from ≡ end → (at : ℕ) → Broken b end from at → ⊥
    end-unbroken e at k = omega (arith, sym e ∙ broken-stop at k, k.more)

-- a walk stops behind every whole chunk that it reaches
pub stop-behind : (b : List ℕ) (end from at : ℕ) → Walked b end from at → WholeChunk b end at → at + 8 + u32_at b (at + 4) ≤ stop_at b end from
stop-behind b end from at r w =
    let e = stop-same b end from (next_at b end at) (behind-whole at r w) in
    let n = ChunksLaws.next-in b end at (of-whole b end at w) in
    let i = reached-in b end (next_at b end at) (stop_at b end (next_at b end at)) n.1 (stop-reached b end (next_at b end at)) in
    omega (arith, e, i.0, next-behind b end at w)

-- a search that goes past a place has found something in front of it
pub first_past : (b : List ℕ) (end name kind from at : ℕ) → Walked b end from at
    → (first_at b end name kind from ≡ first_at b end name kind at) ⊎ (first_at b end name kind from < at)
first_past b end name kind from at at-start = inl refl
first_past b end name kind from at (behind-whole p r w) =
    let n = ChunksLaws.next-in b end p (of-whole b end p w) in
    ⊎_elim
    (λ e. ChunksLaws.by-test (is_named b name kind p)
    (λ o. inr (omega (arith, e, ChunksLaws.first-here b end p name kind (of-whole b end p w) o, n.0)))
    (λ o. inl (e ∙ ChunksLaws.first-further b end p name kind (of-whole b end p w) o)))
    (λ l. inr (omega (arith, l, n.0)))
    (first_past b end name kind from p r)

-- what a search of so many turns finds is reached
pub hit-reached : (n : ℕ) (b : List ℕ) (end name kind from : ℕ) → (first_from n b end name kind from ≡ end → ⊥) → Walked b end from (first_from n b end name kind from)
unfolding first_from
hit-reached zero b end name kind from h = absurd (h refl)
hit-reached (suc n) b end name kind from h =
    ChunksLaws.by-test (is_whole b end from)
    (λ e. ChunksLaws.by-test (is_named b name kind from)
    (λ o. rw (ChunksLaws.first_found b end from n name kind e o) at-start)
    (λ o. let t = ChunksLaws.first-turn b end from n name kind e o in
    rw t (reach-on b end from _ (whole_of b end from e) (hit-reached n b end name kind (next_at b end from) (λ z. h (t ∙ z))))))
    (λ e. absurd (h (ChunksLaws.first-lost b end from (suc n) name kind e)))

-- a kind of chunk, by its name and type
module _ (b : List ℕ) (end name kind from : ℕ) (Is : ℕ → Type 0) (to : (at : ℕ) → is_named b name kind at ≡ true → Is at) (of : (at : ℕ) → Is at → is_named b name kind at ≡ true) where
  -- a search finds no later chunk than any of its kind
  pub first-least : (at : ℕ) → ChunkOf b end from Is at → first_at b end name kind from ≤ at
  first-least at s =
      let e = ChunksLaws.first-here b end at name kind (of-whole b end at s.whole) (of at s.is) in
      ⊎_elim (λ k. omega (arith, k, e)) (λ l. omega (arith, l)) (first_past b end name kind from at s.reached)

  -- what it finds is the first of its kind
  pub found_first : (first_at b end name kind from ≡ end → ⊥) → FirstOf b end from Is (first_at b end name kind from)
  unfolding first_at
  found_first h =
      let k = ChunksLaws.hit b end name kind from h in
      record {
        stands = record { reached = hit-reached end b end name kind from h; whole = whole_of b end _ k.whole; is = to _ k.named };
        first = first-least;
      }

  -- it finds nothing where there is none, and only there
  pub none_found : ((at : ℕ) → ChunkOf b end from Is at → ⊥) → first_at b end name kind from ≡ end
  none_found h =
      ChunksLaws.by-test (eqb (first_at b end name kind from) end) (λ e. eqb-true _ _ e)
      (λ e. absurd (h _ (found_first (eqb-false _ _ e)).stands))

  -- .. and the other way round
  pub found_none : first_at b end name kind from ≡ end → (at : ℕ) → ChunkOf b end from Is at → ⊥
  found_none e at s = omega (arith, e, first-least at s, s.whole.body-in)

  -- the first of its kind is what it finds
  pub first-is : (at : ℕ) → FirstOf b end from Is at → (first_at b end name kind from ≡ at) × (first_at b end name kind from ≡ end → ⊥)
  first-is at f =
      let some : (first_at b end name kind from ≡ end → ⊥) = λ e. found_none e at f.stands in
      (omega (arith, first-least at f.stands, f.first _ (found_first some).stands), some)

-- a list of a type, as it is searched for
pub list-to : (b : List ℕ) (kind at : ℕ) → is_named b list_name kind at ≡ true → IsList b kind at
unfolding type_at
list-to b kind at h =
    let n = ChunksLaws.name-is b list_name kind at h in
    (n, rw (eq-eqb _ _ n) at (ChunksLaws.type-is b list_name kind at h))

-- .. and the other way round
pub list-of : (b : List ℕ) (kind at : ℕ) → IsList b kind at → is_named b list_name kind at ≡ true
unfolding is_named type_at
list-of b kind at h = rw (eq-eqb _ _ h.0, eq-eqb _ _ h.1) refl

-- a smpl chunk, as it is searched for
pub samples-to : (b : List ℕ) (at : ℕ) → is_named b samples_name 0 at ≡ true → IsSamples b at
samples-to b at h = ChunksLaws.name-is b samples_name 0 at h

-- .. and the other way round
pub samples-of : (b : List ℕ) (at : ℕ) → IsSamples b at → is_named b samples_name 0 at ≡ true
unfolding is_named type_at
samples-of b at h = rw h refl
