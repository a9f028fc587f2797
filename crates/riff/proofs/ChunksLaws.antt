-- The walk over chunks, one turn at a time.
use mathlib.Core.Bool.{Bool, true, false, ◌&&◌}
use mathlib.Core.List.{List}
use mathlib.Core.Path.{◌≡◌, refl, sym, ◌∙◌}
use Prim.Native.Nat.{ℕ, zero, suc, ◌+◌, ◌≤◌}
use native.Mathlib.Omega.{arith}
use borrow.Author.Tests.{leb-true, lt-leb, eqb-true, eq-eqb}
use lib.Dec.{eqb, leb}
use Rattle.arith.specs.Bytes.{u32_at}
use Rattle.riff.specs.Chunks.{list_name, type_at, size_at, least_size, is_whole, is_named, next_at, stop_from, first_from, stop_at, first_at}

-- both tests of a conjunction
pub both : (p q : Bool) → p && q ≡ true → (p ≡ true) × (q ≡ true)
both true q e = (refl, e)
both false q e = absurd (never e)
  where
    never : false ≡ true → ⊥
    never e = let z : ◌≡◌ {A = ℕ} 0 1 = cc in omega arith

module _ (b : List ℕ) (end at : ℕ) where
  -- a whole chunk lies in front of the end
  pub whole_in : is_whole b end at ≡ true → at + 8 + size_at b at ≤ end
  unfolding is_whole
  whole_in h = leb-true _ _ (both (leb (at + 8 + size_at b at) end) (leb (least_size b at) (size_at b at)) h).0

  -- .. and has its least size
  pub whole-least : is_whole b end at ≡ true → least_size b at ≤ size_at b at
  unfolding is_whole
  whole-least h = leb-true _ _ (both (leb (at + 8 + size_at b at) end) (leb (least_size b at) (size_at b at)) h).1

  -- the next chunk begins behind it, and not behind the end
  pub next-in : is_whole b end at ≡ true → (at + 8 ≤ next_at b end at) × (next_at b end at ≤ end)
  unfolding next_at
  next-in h = (omega (arith, whole_in h), omega arith)

  -- no chunk is whole at the end or behind it
  pub past-not-whole : end ≤ at → is_whole b end at ≡ false
  unfolding is_whole
  past-not-whole h = rw (lt-leb (at + 8 + size_at b at) end (omega arith)) refl

  -- a turn of the walk
  pub stop-turn : (n : ℕ) → is_whole b end at ≡ true → stop_from (suc n) b end at ≡ stop_from n b end (next_at b end at)
  unfolding stop_from
  stop-turn n h = rw h refl

  -- it stops where no whole chunk is
  pub stop-here : (n : ℕ) → is_whole b end at ≡ false → stop_from n b end at ≡ at
  unfolding stop_from
  stop-here zero h = refl
  stop-here (suc n) h = rw h refl

  -- a turn of the search
  pub first-turn : (n name kind : ℕ) → is_whole b end at ≡ true → is_named b name kind at ≡ false
      → first_from (suc n) b end name kind at ≡ first_from n b end name kind (next_at b end at)
  unfolding first_from
  first-turn n name kind h o = rw (h, o) refl

  -- it finds nothing where no whole chunk is
  pub first-lost : (n name kind : ℕ) → is_whole b end at ≡ false → first_from n b end name kind at ≡ end
  unfolding first_from
  first-lost zero name kind h = refl
  first-lost (suc n) name kind h = rw h refl

  -- it finds a chunk that is named so
  pub first_found : (n name kind : ℕ) → is_whole b end at ≡ true → is_named b name kind at ≡ true → first_from (suc n) b end name kind at ≡ at
  unfolding first_from
  first_found n name kind h o = rw (h, o) refl

-- a test is true or false
pub by-test : {A : Type 0} (p : Bool) → (p ≡ true → A) → (p ≡ false → A) → A
by-test true h k = h refl
by-test false h k = k refl

-- the place moves by eight bytes a turn, so that more turns than there are bytes change nothing
pub stop-enough : (n m : ℕ) (b : List ℕ) (end at : ℕ) → end ≤ at + n → end ≤ at + m → stop_from n b end at ≡ stop_from m b end at
unfolding stop_from
stop-enough zero m b end at h k = sym (stop-here b end at m (past-not-whole b end at (omega arith)))
stop-enough (suc n) zero b end at h k = stop-here b end at (suc n) (past-not-whole b end at (omega arith))
stop-enough (suc n) (suc m) b end at h k =
    by-test (is_whole b end at)
    (λ e. stop-turn b end at n e ∙ stop-enough n m b end (next_at b end at) (omega (arith, next-in b end at e)) (omega (arith, next-in b end at e)) ∙ sym (stop-turn b end at m e))
    (λ e. stop-here b end at (suc n) e ∙ sym (stop-here b end at (suc m) e))

-- the same of the search
pub first-enough : (n m : ℕ) (b : List ℕ) (end name kind at : ℕ) → end ≤ at + n → end ≤ at + m → first_from n b end name kind at ≡ first_from m b end name kind at
unfolding first_from
first-enough zero m b end name kind at h k = sym (first-lost b end at m name kind (past-not-whole b end at (omega arith)))
first-enough (suc n) zero b end name kind at h k = first-lost b end at (suc n) name kind (past-not-whole b end at (omega arith))
first-enough (suc n) (suc m) b end name kind at h k =
    by-test (is_whole b end at)
    (λ e. by-test (is_named b name kind at)
    (λ o. first_found b end at n name kind e o ∙ sym (first_found b end at m name kind e o))
    (λ o. first-turn b end at n name kind e o ∙ first-enough n m b end name kind (next_at b end at) (omega (arith, next-in b end at e)) (omega (arith, next-in b end at e)) ∙ sym (first-turn b end at m name kind e o)))
    (λ e. first-lost b end at (suc n) name kind e ∙ sym (first-lost b end at (suc m) name kind e))

module _ (b : List ℕ) (end at : ℕ) where
  -- with as many turns as bytes on both sides: a whole chunk is stepped over
  pub stop-further : is_whole b end at ≡ true → stop_at b end at ≡ stop_at b end (next_at b end at)
  unfolding stop_at
  stop-further e = stop-enough end (suc end) b end at (omega arith) (omega arith) ∙ stop-turn b end at end e

  -- .. the walk stops
  pub stop-done : is_whole b end at ≡ false → stop_at b end at ≡ at
  unfolding stop_at
  stop-done e = stop-here b end at end e

  -- .. another chunk is stepped over
  pub first-further : (name kind : ℕ) → is_whole b end at ≡ true → is_named b name kind at ≡ false
      → first_at b end name kind at ≡ first_at b end name kind (next_at b end at)
  unfolding first_at
  first-further name kind e o = first-enough end (suc end) b end name kind at (omega arith) (omega arith) ∙ first-turn b end at end name kind e o

  -- .. the search ends with nothing
  pub first-none : (name kind : ℕ) → is_whole b end at ≡ false → first_at b end name kind at ≡ end
  unfolding first_at
  first-none name kind e = first-lost b end at end name kind e

  -- .. or with the chunk
  pub first-here : (name kind : ℕ) → is_whole b end at ≡ true → is_named b name kind at ≡ true → first_at b end name kind at ≡ at
  unfolding first_at
  first-here name kind e o = first-enough end (suc end) b end name kind at (omega arith) (omega arith) ∙ first_found b end at end name kind e o

-- what a search finds: a whole chunk of that name and type, not in front of where it began
pub record Hit (b : List ℕ) (end name kind from at : ℕ) : Type 0 where
  pub whole : is_whole b end at ≡ true
  pub named : is_named b name kind at ≡ true
  pub behind : from ≤ at

-- it is what it says
pub hit-from : (n : ℕ) (b : List ℕ) (end name kind from : ℕ) → (first_from n b end name kind from ≡ end → ⊥) → Hit b end name kind from (first_from n b end name kind from)
unfolding first_from
hit-from zero b end name kind from h = absurd (h refl)
hit-from (suc n) b end name kind from h =
    by-test (is_whole b end from)
    (λ e. by-test (is_named b name kind from)
    (λ o. rw (first_found b end from n name kind e o) (record { whole = e; named = o; behind = omega arith }))
    (λ o. let k = hit-from n b end name kind (next_at b end from) (λ z. h (first-turn b end from n name kind e o ∙ z)) in
    rw (first-turn b end from n name kind e o) (record { whole = k.whole; named = k.named; behind = omega (arith, next-in b end from e, k.behind) })))
    (λ e. absurd (h (first-lost b end from (suc n) name kind e)))

-- .. with as many turns as bytes
pub hit : (b : List ℕ) (end name kind from : ℕ) → (first_at b end name kind from ≡ end → ⊥) → Hit b end name kind from (first_at b end name kind from)
unfolding first_at
hit b end name kind from h = hit-from end b end name kind from h

module _ (b : List ℕ) (name kind at : ℕ) (h : is_named b name kind at ≡ true) where
  -- a chunk's name
  pub name-is : u32_at b at ≡ name
  unfolding is_named
  name-is = eqb-true _ _ (both (eqb (u32_at b at) name) (eqb (type_at b at) kind) h).0

  -- .. and its type
  pub type-is : type_at b at ≡ kind
  unfolding is_named
  type-is = eqb-true _ _ (both (eqb (u32_at b at) name) (eqb (type_at b at) kind) h).1

module _ (b : List ℕ) (end kind at : ℕ) (whole : is_whole b end at ≡ true) (named : is_named b list_name kind at ≡ true) where
  -- a list has room for its type
  pub list-typed : 4 ≤ size_at b at
  unfolding least_size
  list-typed = rw (eq-eqb _ _ (name-is b list_name kind at named)) at (whole-least b end at whole)

  -- .. which stands behind its size
  pub list-type : u32_at b (at + 8) ≡ kind
  unfolding type_at
  list-type = rw (eq-eqb _ _ (name-is b list_name kind at named)) at (type-is b list_name kind at named)
