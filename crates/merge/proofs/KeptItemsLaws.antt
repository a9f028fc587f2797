-- Every event of a sequence has numbers that a mark can have.
use Rattle.smf.specs.declared.Quantity.{Quantity}
use Rattle.std.proofs.Common.{Option, Some, None}
use mathlib.Core.Bool.{Bool, true, false, cond, ◌||◌}
use mathlib.Core.List.{List, [], ◌∷◌}
use mathlib.Core.Path.{◌≡◌, refl}
use Prim.Native.Nat.{ℕ, zero, suc, ◌+◌, ◌<◌, ◌≤◌}
use native.Mathlib.Omega.{arith}
use lib.Dec.{ltb, eqb, leb}
use lib.ListN.{length}
use Rattle.arith.specs.Bytes.{AllBytes, u8_at}
use Rattle.smf.specs.declared.Item.{Item}
use Rattle.smf.specs.declared.Item.TheVariants.{Bad, End, Passed, Tempo, Channel}
use Rattle.smf.specs.Quantities.{two_at, three_at, quantity_at}
use Rattle.smf.specs.Items.{is_channel, is_short, short_at, long_at, spoken_at, exclusive_at, meta_of, meta_at, item_at}
use Rattle.smf.specs.Track.{is_bad}
use Rattle.smf.specs.Songs.{turns}
use Rattle.smf.proofs.ItemsLaws.{either, Placed, item-placed}
use Rattle.merge.specs.declared.Entry.{Entry}
use Rattle.merge.specs.Entries.{settled_at, advanced_of, entries_from}
use Rattle.merge.specs.Lanes.{lanes_from, entries_of, first_entry, flaw_of}
use Rattle.merge.specs.Merging.{sequence_of}
use Rattle.smf.specs.declared.Header.{Header}
use Rattle.smf.specs.declared.Header.TheVariants.{Refused, Track}
use Rattle.smf.specs.Quantities.{four_at}
use Rattle.smf.specs.Head.{track_name, chunk_end, track_from}
use Rattle.smf.proofs.HeadLaws.{end_after}
use Rattle.merge.proofs.KeptOrderLaws.{Each, each_append, each-so, each-order}
use Rattle.merge.proofs.EntriesLaws.{settled-bad, settled-good, on-bad, on-end, on-passed, on-tempo, on-channel}
use Rattle.merge.proofs.LanesLaws.{track-held, lanes-cut, lanes-flawed, lanes_on}
use Rattle.merge.proofs.KeptScoreLaws.{Fair, AllFair}

-- each byte of a file, and what is read past its end
pub byte_at : (b : List ℕ) → AllBytes b → (at : ℕ) → u8_at b at < 256
unfolding u8_at
byte_at [] a at = omega arith
byte_at (x ∷ xs) a zero = a.0
byte_at (x ∷ xs) a (suc at) = byte_at xs a.1 at

-- ---- 1. Tempos

-- a tempo has at most 24 bits
abbrev Slow : Item → Type 0
Slow Bad = Unit {0}
Slow End = Unit {0}
Slow (Passed behind) = Unit {0}
Slow (Tempo tempo behind) = tempo < 16777216
Slow (Channel status first second behind) = Unit {0}

module _ (b : List ℕ) (a : AllBytes b) (edge : ℕ) where
  -- three bytes
  three-small : (at : ℕ) → three_at b at < 16777216
  unfolding three_at two_at
  three-small at = omega (arith, byte_at b a at, byte_at b a (at + 1), byte_at b a (at + 2))

  -- a channel event has none
  spoken-slow : (status at : ℕ) → Slow (spoken_at b edge status at)
  unfolding spoken_at short_at long_at
  spoken-slow status at =
      either Slow (is_short status) _ _ (λ e. either Slow (ltb edge (at + 1) || ltb 127 (u8_at b at)) _ _ (λ f. tt) (λ f. tt))
      (λ e. either Slow (ltb edge (at + 2) || ltb 127 (u8_at b at) || ltb 127 (u8_at b (at + 1))) _ _ (λ f. tt) (λ f. tt))

  -- nor has a system exclusive event
  exclusive-slow : (at : ℕ) → Slow (exclusive_at b edge at)
  unfolding exclusive_at
  exclusive-slow at = go (quantity_at b edge at)
    where
      go : (q : Option Quantity) → Slow (elim q [ None ↦ Bad | Some q ↦ cond (ltb edge (q.behind + q.value)) Bad (Passed (q.behind + q.value)) ])
      go None = tt
      go (Some q) = either Slow (ltb edge (q.behind + q.value)) Bad (Passed (q.behind + q.value)) (λ t. tt) (λ t. tt)

  -- a meta event by its type
  meta-of-slow : (kind n at : ℕ) → Slow (meta_of b kind n at)
  unfolding meta_of
  meta-of-slow kind n at =
      either Slow (eqb kind 47) _ _ (λ e. tt)
      (λ e. either Slow (eqb kind 81) _ _ (λ f. either Slow (ltb n 3) _ _ (λ g. tt) (λ g. three-small at)) (λ f. tt))

  -- a meta event
  meta-slow : (at : ℕ) → Slow (meta_at b edge at)
  unfolding meta_at
  meta-slow at = go (quantity_at b edge (at + 1))
    where
      go : (q : Option Quantity) → Slow (elim q [ None ↦ Bad | Some q ↦ cond (ltb 127 (u8_at b at) || ltb edge (q.behind + q.value)) Bad (meta_of b (u8_at b at) q.value q.behind) ])
      go None = tt
      go (Some q) = either Slow (ltb 127 (u8_at b at) || ltb edge (q.behind + q.value)) Bad (meta_of b (u8_at b at) q.value q.behind) (λ t. tt) (λ t. meta-of-slow (u8_at b at) q.value q.behind)

  -- every event
  item-slow : (running at : ℕ) → Slow (item_at b edge running at)
  unfolding item_at
  item-slow running at =
      let x = u8_at b at in
      either Slow (leb edge at) _ _ (λ e. tt)
      (λ e. either Slow (ltb x 128) _ _ (λ f. either Slow (is_channel running) _ _ (λ g. spoken-slow running at) (λ g. tt))
      (λ f. either Slow (ltb x 240) _ _ (λ g. spoken-slow x (at + 1))
      (λ g. either Slow (eqb x 255) _ _ (λ h. meta-slow (at + 1))
      (λ h. either Slow (eqb x 240 || eqb x 247) _ _ (λ k. exclusive-slow (at + 1)) (λ k. tt)))))

-- ---- 2. Events

-- by its tempo and its data bytes
fair-by : (edge at : ℕ) (i : Item) → Placed edge at i → Slow i → Fair i
fair-by edge at Bad p s = tt
fair-by edge at End p s = tt
fair-by edge at (Passed behind) p s = tt
fair-by edge at (Tempo tempo behind) p s = s
fair-by edge at (Channel status first second behind) p s = (p.low, p.high, p.first-in, p.second-in, p.short)

module _ (b : List ℕ) (a : AllBytes b) where
  -- an event behind its delta time
  settled-fair : (end running at tick : ℕ) → Fair (settled_at b end running at tick).item
  settled-fair end running at tick = go (quantity_at b end at) refl
    where
      go : (q : Option Quantity) → quantity_at b end at ≡ q → Fair (settled_at b end running at tick).item
      go None e = rw (settled-bad b end running at tick e) tt
      go (Some q) e =
          rw (settled-good b end running at tick q.value q.behind e)
          (fair-by end q.behind (item_at b end running q.behind) (item-placed b end running q.behind) (item-slow b a end running q.behind))

  -- the next event of a track
  advanced-fair : (e : Entry) → Fair (advanced_of b e).item
  advanced-fair e = go e.item refl
    where
      go : (i : Item) → e.item ≡ i → Fair (advanced_of b e).item
      go Bad p = rw (on-bad b e p) tt
      go End p = rw (on-end b e p) tt
      go (Passed behind) p = rw (on-passed b e behind p) (settled-fair e.end 0 behind e.tick)
      go (Tempo tempo behind) p = rw (on-tempo b e tempo behind p) (settled-fair e.end 0 behind e.tick)
      go (Channel status first second behind) p = rw (on-channel b e status first second behind p) (settled-fair e.end status behind e.tick)

-- ---- 3. The sequence

-- a track that is found begins in front of its end
pub track-begins : (n : ℕ) (b : List ℕ) (at begin end : ℕ) → track_from n b at ≡ Track begin end → (at ≤ begin) × (begin ≤ end)
unfolding track_from
track-begins zero b at begin end e = let z : ◌≡◌ {A = ℕ} 0 1 = cc in absurd (omega arith)
track-begins (suc n) b at begin end e =
    go (track-begins n b (chunk_end b at) begin end) (ltb (length b) (at + 4)) (ltb (length b) (chunk_end b at)) (eqb (four_at b at) track_name) e
  where
    go : (track_from n b (chunk_end b at) ≡ Track begin end → (chunk_end b at ≤ begin) × (begin ≤ end)) → (s t u : Bool)
        → cond s (Refused 9 at) (cond t (Refused 9 (at + 4)) (cond u (Track (at + 8) (chunk_end b at)) (track_from n b (chunk_end b at)))) ≡ Track begin end
        → (at ≤ begin) × (begin ≤ end)
    go more true t u e = let z : ◌≡◌ {A = ℕ} 0 1 = cc in absurd (omega arith)
    go more false true u e = let z : ◌≡◌ {A = ℕ} 0 1 = cc in absurd (omega arith)
    go more false false true e =
        let x : at + 8 ≡ begin = cc in
        let y : chunk_end b at ≡ end = cc in
        let z = end_after b at in
        (omega (arith, x), omega (arith, x, y, z))
    go more false false false e = let h = more e in let z = end_after b at in (omega (arith, h, z), h.1)

-- what is so of an entry and goes on is so of each event of its track
each-track : (P : Entry → Type 0) (n : ℕ) (b : List ℕ) (e : Entry) → ((x : Entry) → P x → P (advanced_of b x)) → P e → Each (λ (x : Entry). P x × (is_bad x.item ≡ false)) (entries_from n b e)
unfolding entries_from
each-track P zero b e on p = tt
each-track P (suc n) b e on p = go (each-track P n b (advanced_of b e) on (on e p)) (is_bad e.item) refl
  where
    go : Each (λ (x : Entry). P x × (is_bad x.item ≡ false)) (entries_from n b (advanced_of b e)) → (t : Bool) → is_bad e.item ≡ t
        → Each (λ (x : Entry). P x × (is_bad x.item ≡ false)) (cond t [] (e ∷ entries_from n b (advanced_of b e)))
    go more true t = tt
    go more false t = ((p, t), more)

module _ (P : Entry → Type 0) (b : List ℕ) (start : (begin end : ℕ) → begin ≤ end → end ≤ length b → P (first_entry b begin end)) (on : (x : Entry) → P x → P (advanced_of b x)) where
  -- of the first event of each track
  each_lane : (n at : ℕ) → Each P (lanes_from n b at)
  unfolding lanes_from
  each_lane zero at = tt
  each_lane (suc n) at = go (each_lane n) (track_from (length b) b at) refl
    where
      by : (begin end : ℕ) → track_from (length b) b at ≡ Track begin end → Each P (lanes_from n b end) → (s : Option ℕ) → flaw_of b (first_entry b begin end) ≡ s → Each P (lanes_from (suc n) b at)
      by begin end e more None f = rw (lanes_on b n at begin end e f).0 (start begin end (track-begins (length b) b at begin end e).1 (track-held (length b) b at begin end e), more)
      by begin end e more (Some place) f = rw (lanes-flawed b n at begin end place e f).0 (start begin end (track-begins (length b) b at begin end e).1 (track-held (length b) b at begin end e), tt)

      go : ((from : ℕ) → Each P (lanes_from n b from)) → (h : Header) → track_from (length b) b at ≡ h → Each P (lanes_from (suc n) b at)
      go more (Refused number place) e = rw (lanes-cut b n at number place e).0 tt
      go more (Track begin end) e = by begin end e (more end) (flaw_of b (first_entry b begin end)) refl

  -- of the events of some tracks
  each-tracks : (es : List Entry) → Each P es → Each (λ (x : Entry). P x × (is_bad x.item ≡ false)) (entries_of b es)
  unfolding entries_of
  each-tracks [] k = tt
  each-tracks (e ∷ es) k =
      each_append (λ (x : Entry). P x × (is_bad x.item ≡ false)) (entries_from (turns b) b e) (entries_of b es) (each-track P (turns b) b e on k.0) (each-tracks es k.1)

  -- of the one sequence
  pub each-sequence : (n at : ℕ) → Each (λ (x : Entry). P x × (is_bad x.item ≡ false)) (sequence_of n b at)
  each-sequence n at = each-order (λ (x : Entry). P x × (is_bad x.item ≡ false)) (entries_of b (lanes_from n b at)) (each-tracks (lanes_from n b at) (each_lane n at))

-- its numbers are those that a mark can have
pub sequence-fair : (b : List ℕ) → AllBytes b → (n at : ℕ) → AllFair (sequence_of n b at)
sequence-fair b a n at =
    let P : Entry → Type 0 = λ x. Fair x.item in
    each-so (λ (x : Entry). P x × (is_bad x.item ≡ false)) P (sequence_of n b at) (λ x p. p.0) (each-sequence P b (λ begin end h k. settled-fair b a end 0 begin 0) (λ x p. advanced-fair b a x) n at)
