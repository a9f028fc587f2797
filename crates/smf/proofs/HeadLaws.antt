-- The search for the track, chunk by chunk.
use mathlib.Core.Bool.{Bool, true, false, cond}
use mathlib.Core.List.{List}
use mathlib.Core.Path.{◌≡◌, refl, sym}
use Prim.Native.Nat.{ℕ, zero, suc, ◌+◌, ◌<◌, ◌≤◌}
use native.Mathlib.Omega.{arith}
use borrow.Author.Tests.{lt-ltb, le-ltb, eq-eqb, ne_eqb}
use lib.Dec.{ltb, eqb}
use lib.ListN.{length}
use Rattle.smf.specs.declared.Header.{Header}
use Rattle.smf.specs.declared.Header.TheVariants.{Refused, Track}
use Rattle.smf.specs.Quantities.{two_at, four_at}
use Rattle.smf.specs.Head.{chunk_end, track_from, head_of}

module _ (b : List ℕ) (at : ℕ) where
  -- a chunk ends behind its length field
  pub end_after : at + 8 ≤ chunk_end b at
  unfolding chunk_end
  end_after = omega arith

  -- no name is left
  pub track-cut : (n : ℕ) → length b < at + 4 → track_from n b at ≡ Refused 9 at
  unfolding track_from
  track-cut zero h = refl
  track-cut (suc n) h = rw (lt-ltb _ _ h) refl

  -- a chunk longer than the file
  pub track-long : (n : ℕ) → at + 4 ≤ length b → length b < chunk_end b at → track_from (suc n) b at ≡ Refused 9 (at + 4)
  unfolding track_from
  track-long n h k = rw (le-ltb _ _ h, lt-ltb _ _ k) refl

  -- the track
  pub track-found : (n : ℕ) → at + 4 ≤ length b → chunk_end b at ≤ length b → four_at b at ≡ 1297379947 → track_from (suc n) b at ≡ Track (at + 8) (chunk_end b at)
  unfolding track_from
  track-found n h k e = rw (le-ltb _ _ h, le-ltb _ _ k, eq-eqb _ _ e) refl

  -- another chunk is stepped over
  pub track-other : (n : ℕ) → at + 4 ≤ length b → chunk_end b at ≤ length b → (four_at b at ≡ 1297379947 → ⊥) → track_from (suc n) b at ≡ track_from n b (chunk_end b at)
  unfolding track_from
  track-other n h k e = rw (le-ltb _ _ h, le-ltb _ _ k, ne_eqb _ _ e) refl

-- there are fewer chunks than bytes, so that more turns change nothing
pub track-enough : (n m : ℕ) (b : List ℕ) (at : ℕ) → length b < at + n → length b < at + m → track_from n b at ≡ track_from m b at
unfolding track_from
track-enough zero m b at h k = sym (track-cut b at m (omega arith))
track-enough (suc n) zero b at h k = track-cut b at (suc n) (omega arith)
track-enough (suc n) (suc m) b at h k =
    go (track-enough n m b (chunk_end b at) (omega (arith, end_after b at)) (omega (arith, end_after b at))) (ltb (length b) (at + 4)) (ltb (length b) (chunk_end b at)) (eqb (four_at b at) 1297379947)
  where
    go : track_from n b (chunk_end b at) ≡ track_from m b (chunk_end b at) → (s t u : Bool) → cond s (Refused 9 at) (cond t (Refused 9 (at + 4)) (cond u (Track (at + 8) (chunk_end b at)) (track_from n b (chunk_end b at)))) ≡ cond s (Refused 9 at) (cond t (Refused 9 (at + 4)) (cond u (Track (at + 8) (chunk_end b at)) (track_from m b (chunk_end b at))))
    go e true t u = refl
    go e false true u = refl
    go e false false true = refl
    go e false false false = e

-- the same, with as many turns as bytes on both sides
pub track-further : (b : List ℕ) (at : ℕ) → at + 4 ≤ length b → chunk_end b at ≤ length b → (four_at b at ≡ 1297379947 → ⊥) → track_from (length b) b at ≡ track_from (length b) b (chunk_end b at)
track-further b at h k e = go (length b) refl
  where
    go : (n : ℕ) → length b ≡ n → track_from n b at ≡ track_from n b (chunk_end b at)
    go zero l = absurd (omega arith)
    go (suc n) l = rw (track-other b at n h k e) (track-enough n (suc n) b (chunk_end b at) (omega (arith, end_after b at)) (omega (arith, end_after b at)))

-- the answer where a name stands, with as many turns as bytes
pub track-turn : (b : List ℕ) (at : ℕ) (answer : Header) → at + 4 ≤ length b → ((n : ℕ) → track_from (suc n) b at ≡ answer) → track_from (length b) b at ≡ answer
track-turn b at answer h e = go (length b) refl
  where
    go : (n : ℕ) → length b ≡ n → track_from n b at ≡ answer
    go zero l = absurd (omega arith)
    go (suc n) l = e n

-- the head's fields, each tested behind those in front of it
pub record Named (b : List ℕ) : Type 0 where
  pub name : four_at b 0 ≡ 1297377380

-- its length is six or more, and the file holds it
pub record Held (b : List ℕ) : Type 0 where
  pub named : Named b
  pub six : 6 ≤ four_at b 4
  pub in-file : chunk_end b 0 ≤ length b

-- format 0
pub record Formatted (b : List ℕ) : Type 0 where
  pub held : Held b
  pub zero-format : two_at b 8 ≡ 0

-- one track
pub record Single (b : List ℕ) : Type 0 where
  pub formatted : Formatted b
  pub one : two_at b 10 ≡ 1

module _ (b : List ℕ) where
  -- no MThd
  pub head-unnamed : (four_at b 0 ≡ 1297377380 → ⊥) → head_of b ≡ Refused 9 0
  unfolding head_of
  head-unnamed h = rw (ne_eqb _ _ h) refl

  -- below six
  pub head-short : Named b → four_at b 4 < 6 → head_of b ≡ Refused 9 4
  unfolding head_of
  head-short n h = rw (eq-eqb _ _ n.name, lt-ltb _ _ h) refl

  -- past the file
  pub head-long : Named b → 6 ≤ four_at b 4 → length b < chunk_end b 0 → head_of b ≡ Refused 9 4
  unfolding head_of
  head-long n h k = rw (eq-eqb _ _ n.name, le-ltb _ _ h, lt-ltb _ _ k) refl

  -- another format
  pub head-format : Held b → (two_at b 8 ≡ 0 → ⊥) → head_of b ≡ Refused 10 8
  unfolding head_of
  head-format n h = rw (eq-eqb _ _ n.named.name, le-ltb _ _ n.six, le-ltb _ _ n.in-file, ne_eqb _ _ h) refl

  -- another number of tracks
  pub head-tracks : Formatted b → (two_at b 10 ≡ 1 → ⊥) → head_of b ≡ Refused 9 10
  unfolding head_of
  head-tracks n h =
      let k = n.held in
      rw (eq-eqb _ _ k.named.name, le-ltb _ _ k.six, le-ltb _ _ k.in-file, eq-eqb _ _ n.zero-format, ne_eqb _ _ h) refl

  -- no division
  pub head-undivided : Single b → two_at b 12 ≡ 0 → head_of b ≡ Refused 9 12
  unfolding head_of
  head-undivided n h =
      let k = n.formatted.held in
      rw (eq-eqb _ _ k.named.name, le-ltb _ _ k.six, le-ltb _ _ k.in-file, eq-eqb _ _ n.formatted.zero-format, eq-eqb _ _ n.one, eq-eqb _ _ h) refl

  -- SMPTE
  pub head-smpte : Single b → 32767 < two_at b 12 → head_of b ≡ Refused 10 12
  unfolding head_of
  head-smpte n h =
      let k = n.formatted.held in
      let some : (two_at b 12 ≡ 0 → ⊥) = λ z. absurd (omega (arith, h, z)) in
      rw (eq-eqb _ _ k.named.name, le-ltb _ _ k.six, le-ltb _ _ k.in-file, eq-eqb _ _ n.formatted.zero-format, eq-eqb _ _ n.one, ne_eqb _ _ some, lt-ltb _ _ h) refl

  -- a good head leads to the chunks behind it
  pub head-good : Single b → (two_at b 12 ≡ 0 → ⊥) → two_at b 12 ≤ 32767 → head_of b ≡ track_from (length b) b (chunk_end b 0)
  unfolding head_of
  head-good n s h =
      let k = n.formatted.held in
      rw (eq-eqb _ _ k.named.name, le-ltb _ _ k.six, le-ltb _ _ k.in-file, eq-eqb _ _ n.formatted.zero-format, eq-eqb _ _ n.one, ne_eqb _ _ s, le-ltb _ _ h) refl
