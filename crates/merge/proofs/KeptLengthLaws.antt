-- What is written is never longer than a chunk's length can say: the tracks have fewer events than bytes, and bridges need ticks.
use Rattle.smf.specs.declared.Quantity.{Quantity}
use Rattle.std.proofs.Common.{Option, Some, None}
use mathlib.Core.Bool.{Bool, true, false, cond, true≢false, ◌&&◌}
use mathlib.Core.List.{List, [], ◌∷◌, ◌++◌}
use mathlib.Core.Path.{◌≡◌, refl, sym, ap, subst, ◌∙◌}
use Prim.Native.Nat.{ℕ, zero, suc, ◌+◌, ◌*◌, ◌-◌, ◌/◌, ◌<◌, ◌≤◌, min}
use native.Mathlib.Omega.{arith}
use borrow.Author.Tests.{ltb-true, ltb-false, lt-ltb, le-ltb}
use lib.Dec.{ltb, eqb}
use lib.ListN.{length, length-append}
use Rattle.arith.specs.Bytes.{AllBytes}
use Rattle.smf.specs.declared.Header.{Header}
use Rattle.smf.specs.declared.Header.TheVariants.{Refused, Track}
use Rattle.smf.specs.declared.Item.{Item}
use Rattle.smf.specs.declared.Item.TheVariants.{Bad, End, Passed, Tempo, Channel}
use Rattle.smf.specs.Quantities.{quantity_at}
use Rattle.smf.specs.Head.{track_from}
use Rattle.smf.specs.Track.{is_bad}
use Rattle.smf.specs.Songs.{turns}
use Rattle.smf.specs.Spelling.{Mark, has_one, ticks_of, running_behind, three_bytes, quantity_bytes, status_bytes, data_bytes, event_bytes, track_bytes}
use Rattle.smf.proofs.ItemsLaws.{either}
use Rattle.smf.proofs.QuantitiesLaws.{quantity-behind, quantity-value}
use Rattle.smf.proofs.SpellingLaws.{written}
use Rattle.merge.specs.declared.Entry.{Entry}
use Rattle.merge.specs.declared.Front.{Front}
use Rattle.merge.specs.Entries.{settled_at, advanced_of, entries_from}
use Rattle.merge.specs.Fronts.{front_of}
use Rattle.merge.specs.Lateness.{late_of}
use Rattle.merge.specs.Lanes.{first_entry, flaw_of, lanes_from, flaw_in, entries_of}
use Rattle.merge.specs.Bridges.{bridges_of, rest_of, bridged}
use Rattle.merge.specs.Marks.{last_end_from, marks_from, last_from, score_of}
use Rattle.merge.specs.Merging.{Joined, sequence_of, joined_file, fitted, judged, joined_of, room_of, merged_of}
use Rattle.merge.specs.Internal.Entries.{EndsIn, Settled, goes_on}
use Rattle.merge.specs.Kept.{NoneBefore, TicksRise, NeverSoLong, RoomIsLength}
use Rattle.merge.proofs.BridgesLaws.{bridges-most}
use Rattle.merge.proofs.EntriesLaws.{settled-bad, settled-good, settled-none, settled-some, seated-at, gone-settled, going, onward, on-bad, on-end, on-passed, on-tempo, on-channel}
use Rattle.merge.proofs.FrontsLaws.{FrontIn, front-in}
use Rattle.merge.proofs.LanesLaws.{track-held, lanes-cut, lanes-flawed, lanes_on}
use Rattle.merge.proofs.KeptOrderLaws.{Each, each-so, order-rises, length-order}
use Rattle.merge.proofs.KeptScoreLaws.{adds-tempo, adds-channel, adds-end, adds-passed, adds-bad, adds_none}
use Rattle.merge.proofs.KeptItemsLaws.{byte_at, track-begins, each-sequence}
use Rattle.merge.proofs.KeptAgainLaws.{entries-gone}
use Rattle.merge.proofs.MergingLaws.{merged-front, merged-song, merged-long}

-- ---- 1. How many events there are

-- an entry lies in its track
pub record Lies (b : List ℕ) (e : Entry) : Type 0 where
  settled : Settled b e
  inside : e.place ≤ e.end

module _ (b : List ℕ) (a : AllBytes b) (short : length b ≤ 16777216) where
  -- an event behind its delta time does
  lies_at : (end running at tick : ℕ) → end ≤ length b → at ≤ end → tick ≤ at * 268435456 → Lies b (settled_at b end running at tick) × ((settled_at b end running at tick).end ≡ end)
  lies_at end running at tick held h t = go (quantity_at b end at) refl
    where
      go : (q : Option Quantity) → quantity_at b end at ≡ q → Lies b (settled_at b end running at tick) × ((settled_at b end running at tick).end ≡ end)
      go None e =
          let same = settled-bad b end running at tick e in
          (record { settled = settled-none b end running at tick short held e; inside = rw same h }, rw same refl)
      go (Some y) e =
          let same = settled-good b end running at tick y.value y.behind e in
          let q = quantity-behind b end at y.value y.behind e in
          let v = quantity-value b end at y.value y.behind (byte_at b a) e in
          (record { settled = settled-some b end running at tick short held y.value y.behind t v e; inside = rw same q.1 }, rw same refl)

  -- so does the next, in the same track
  lies-on : (e : Entry) → Lies b e → Lies b (advanced_of b e) × ((advanced_of b e).end ≡ e.end)
  lies-on e l = go e.item refl
    where
      in-track : (i : Item) → e.item ≡ i → EndsIn e.place e.end i
      in-track i p = subst (λ (x : Item). EndsIn e.place e.end x) p l.settled.seated.item_in

      on : (i : Item) (running behind : ℕ) → e.item ≡ i → is_bad i ≡ false → (e.place < behind) × (behind ≤ e.end) → advanced_of b e ≡ settled_at b e.end running behind e.tick
          → Lies b (advanced_of b e) × ((advanced_of b e).end ≡ e.end)
      on i running behind p f k same =
          let g = going b e i behind l.settled p f k.0 in
          rw same (lies_at e.end running behind e.tick g.1 k.1 g.2)

      go : (i : Item) → e.item ≡ i → Lies b (advanced_of b e) × ((advanced_of b e).end ≡ e.end)
      go Bad p = rw (on-bad b e p) (record { settled = gone-settled b e l.settled; inside = l.inside }, refl)
      go End p = rw (on-end b e p) (record { settled = gone-settled b e l.settled; inside = l.inside }, refl)
      go (Passed behind) p = on (Passed behind) 0 behind p refl (in-track (Passed behind) p) (on-passed b e behind p)
      go (Tempo tempo behind) p = on (Tempo tempo behind) 0 behind p refl (in-track (Tempo tempo behind) p) (on-tempo b e tempo behind p)
      go (Channel status first second behind) p =
          on (Channel status first second behind) status behind p refl (in-track (Channel status first second behind) p) (on-channel b e status first second behind p)

  -- an event that is no fault takes a byte, in front of those behind it
  takes : (n : ℕ) (e : Entry) → Lies b e → is_bad e.item ≡ false → length (entries_from n b (advanced_of b e)) + (advanced_of b e).place ≤ (advanced_of b e).end
      → suc (length (entries_from n b (advanced_of b e))) + e.place ≤ e.end
  takes n e l f more = go e.item refl
    where
      on : (i : Item) → e.item ≡ i → goes_on i ≡ true → suc (length (entries_from n b (advanced_of b e))) + e.place ≤ e.end
      on i p g =
          let further = (onward b e l.settled.seated).further (ap goes_on p ∙ g) in
          let same = (lies-on e l).1 in
          omega (arith, further, same, more)

      go : (i : Item) → e.item ≡ i → suc (length (entries_from n b (advanced_of b e))) + e.place ≤ e.end
      go Bad p = absurd (true≢false (sym (ap is_bad p) ∙ f))
      go End p =
          let none = ap length (entries-gone n b (advanced_of b e) (rw (on-end b e p) refl)) in
          let k : e.place < e.end = subst (λ (x : Item). EndsIn e.place e.end x) p l.settled.seated.item_in in
          omega (arith, none, k)
      go (Passed behind) p = on (Passed behind) p refl
      go (Tempo tempo behind) p = on (Tempo tempo behind) p refl
      go (Channel status first second behind) p = on (Channel status first second behind) p refl

  -- so a track has no more events than bytes
  track-few : (n : ℕ) (e : Entry) → Lies b e → length (entries_from n b e) + e.place ≤ e.end
  unfolding entries_from
  track-few zero e l = omega (arith, l.inside)
  track-few (suc n) e l = go (track-few n (advanced_of b e) (lies-on e l).0) (is_bad e.item) refl
    where
      go : length (entries_from n b (advanced_of b e)) + (advanced_of b e).place ≤ (advanced_of b e).end → (t : Bool) → is_bad e.item ≡ t
          → length (cond t [] (e ∷ entries_from n b (advanced_of b e))) + e.place ≤ e.end
      go more true t = omega (arith, l.inside)
      go more false t = takes n e l t more

  -- the first event of a track
  lies-first : (begin end : ℕ) → begin ≤ end → end ≤ length b → Lies b (first_entry b begin end)
  lies-first begin end h k = (lies_at end 0 begin 0 k h (omega arith)).0

  -- the tracks lie one behind the other, so that they have no more events than the file has bytes
  tracks-few : (n at : ℕ) → at ≤ length b → length (entries_of b (lanes_from n b at)) + at ≤ length b
  unfolding entries_of lanes_from
  tracks-few zero at h = omega (arith, h)
  tracks-few (suc n) at h = go (tracks-few n) (track_from (length b) b at) refl
    where
      first-few : (begin end : ℕ) → begin ≤ end → end ≤ length b → length (entries_from (turns b) b (first_entry b begin end)) + begin ≤ end
      first-few begin end p q =
          let l = lies_at end 0 begin 0 q p (omega arith) in
          let few = track-few (turns b) (first_entry b begin end) l.0 in
          let from = (seated-at b end 0 begin 0 q).1 in
          omega (arith, few, from, l.1)

      by : (begin end : ℕ) → track_from (length b) b at ≡ Track begin end → length (entries_of b (lanes_from n b end)) + end ≤ length b → (s : Option ℕ) → flaw_of b (first_entry b begin end) ≡ s
          → length (entries_of b (lanes_from (suc n) b at)) + at ≤ length b
      by begin end e more None f =
          let k = track-begins (length b) b at begin end e in
          let few = first-few begin end k.1 (track-held (length b) b at begin end e) in
          let l = length-append (entries_from (turns b) b (first_entry b begin end)) (entries_of b (lanes_from n b end)) in
          let same = ap (λ (es : List Entry). length (entries_of b es)) (lanes_on b n at begin end e f).0 in
          omega (arith, k, few, l, same, more)
      by begin end e more (Some place) f =
          let k = track-begins (length b) b at begin end e in
          let held = track-held (length b) b at begin end e in
          let few = first-few begin end k.1 held in
          let l = length-append (entries_from (turns b) b (first_entry b begin end)) [] in
          let same = ap (λ (es : List Entry). length (entries_of b es)) (lanes-flawed b n at begin end place e f).0 in
          omega (arith, k, few, l, same, held)

      go : ((from : ℕ) → from ≤ length b → length (entries_of b (lanes_from n b from)) + from ≤ length b) → (x : Header) → track_from (length b) b at ≡ x
          → length (entries_of b (lanes_from (suc n) b at)) + at ≤ length b
      go more (Refused number place) e =
          let same = ap (λ (es : List Entry). length (entries_of b es)) (lanes-cut b n at number place e).0 in
          omega (arith, same, h)
      go more (Track begin end) e = by begin end e (more end (track-held (length b) b at begin end e)) (flaw_of b (first_entry b begin end)) refl

  -- none is behind tick 2^52
  sequence-under : (n at : ℕ) → Each (λ (e : Entry). e.tick ≤ 4503599627370496) (sequence_of n b at)
  sequence-under n at =
      each-so (λ (x : Entry). Lies b x × (is_bad x.item ≡ false)) (λ (e : Entry). e.tick ≤ 4503599627370496) (sequence_of n b at)
      (λ e p. let t = p.0.settled.good p.1 in omega (arith, t, short, p.0.inside, p.0.settled.seated.held))
      (each-sequence (Lies b) b lies-first (λ e l. (lies-on e l).0) n at)

-- ---- 2. How long they are

-- a quantity has at most four bytes
quantity-most : (n : ℕ) → length (quantity_bytes n) ≤ 4
unfolding quantity_bytes
quantity-most n =
    let P : List ℕ → Type 0 = λ xs. length xs ≤ 4 in
    either P (ltb n 128) _ _ (λ e. omega arith) (λ e. either P (ltb n 16384) _ _ (λ f. omega arith) (λ f. either P (ltb n 2097152) _ _ (λ g. omega arith) (λ g. omega arith)))

-- a channel event has at most three
channel-most : (running ticks status first second : ℕ) → length (event_bytes true running (Mark.Channel ticks status first second)) ≤ 3
unfolding event_bytes status_bytes data_bytes
channel-most running ticks status first second =
    let P : ℕ → List ℕ → Type 0 = λ n xs. length xs ≤ n in
    let s : length (status_bytes true running status) ≤ 1 = either (P 1) (true && eqb status running) _ _ (λ e. omega arith) (λ e. omega arith) in
    let d : length (data_bytes status first second) ≤ 2 = either (P 2) (has_one status) _ _ (λ e. omega arith) (λ e. omega arith) in
    let l = length-append (status_bytes true running status) (data_bytes status first second) in
    omega (arith, s, d, l)

-- a tempo change has six
tempo-six : (running ticks tempo : ℕ) → length (event_bytes true running (Mark.Tempo ticks tempo)) ≡ 6
unfolding event_bytes three_bytes
tempo-six running ticks tempo = refl

-- a track with a mark in front has at most ten bytes more
mark-most : (m : Mark) (k running last : ℕ) (ms : List Mark) → length (event_bytes true running m) ≤ 6
    → length (track_bytes (λ i. true) k running (m ∷ ms) last) ≤ 10 + length (track_bytes (λ i. true) (suc k) (running_behind m) ms last)
unfolding track_bytes
mark-most m k running last ms h =
    let q = quantity-most (ticks_of m) in
    let rest = track_bytes (λ i. true) (suc k) (running_behind m) ms last in
    let l = length-append (quantity_bytes (ticks_of m)) (event_bytes true running m ++ rest) in
    let r = length-append (event_bytes true running m) rest in
    omega (arith, h, q, l, r)

-- with bridges in front it has ten for each
bridged-most : (n tempo last most k running : ℕ) (ms : List Mark) → ((i r : ℕ) → length (track_bytes (λ x. true) i r ms last) ≤ most) → length (track_bytes (λ x. true) k running (bridged tempo n ms) last) ≤ 10 * n + most
unfolding bridged
bridged-most zero tempo last most k running ms h = omega (arith, h k running)
bridged-most (suc n) tempo last most k running ms h =
    let s = mark-most (Mark.Tempo 268435455 tempo) k running last (bridged tempo n ms) (omega (arith, tempo-six running 268435455 tempo)) in
    let more = bridged-most n tempo last most (suc k) 0 ms h in
    omega (arith, s, more)

-- the end of track has at most seven
end-most : (k running last : ℕ) → length (track_bytes (λ x. true) k running [] last) ≤ 7
unfolding track_bytes
end-most k running last =
    let q = quantity-most last in
    let l = length-append (quantity_bytes last) (255 ∷ 47 ∷ 0 ∷ []) in
    omega (arith, q, l)

-- ---- 3. How long the file is

-- the last end of track is not behind a tick that none is behind
end-under : (es : List Entry) (begun top : ℕ) → begun ≤ top → Each (λ (e : Entry). e.tick ≤ top) es → last_end_from begun es ≤ top
end-under [] begun top h u = rw (adds_none begun 0 0 0).0 h
end-under (x ∷ xs) begun top h u = go (λ start k. end-under xs start top k u.1) x.item refl
  where
    go : ((start : ℕ) → start ≤ top → last_end_from start xs ≤ top) → (i : Item) → x.item ≡ i → last_end_from begun (x ∷ xs) ≤ top
    go more Bad p = rw (adds-bad x xs begun 0 0 0 p).0 (more begun h)
    go more End p = rw (adds-end x xs begun 0 0 0 p).0 (more x.tick u.0)
    go more (Passed behind) p = rw (adds-passed x xs begun 0 0 0 behind p).0 (more begun h)
    go more (Tempo next behind) p = rw (adds-tempo x xs begun 0 0 0 next behind p).0 (more begun h)
    go more (Channel status first second behind) p = rw (adds-channel x xs begun 0 0 0 status first second behind p).0 (more begun h)

-- the bytes for so many events over so many ticks
abbrev most_of : ℕ → ℕ → ℕ
most_of events ticks = 10 * events + 7 + 10 * ticks / 268435455

-- the track of a sequence has no more
track-most : (es : List Entry) (end tick tempo top k running : ℕ) → tick ≤ top → end ≤ top → NoneBefore tick es → TicksRise es → Each (λ (e : Entry). e.tick ≤ top) es
    → length (track_bytes (λ x. true) k running (marks_from end tick tempo es) (last_from end tick es)) ≤ most_of (length es) (top - tick)
track-most [] end tick tempo top k running h g b r u =
    let a = adds_none 0 end tick tempo in
    let n = bridges-most (end - tick) in
    let most = bridged-most (bridges_of (end - tick)) tempo (rest_of (end - tick)) 7 k running [] (λ i j. end-most i j (rest_of (end - tick))) in
    rw (a.1, a.2) (omega (arith, h, g, n, most))
track-most (x ∷ xs) end tick tempo top k running h g b r u =
    go (track-most xs end tick tempo top k running h g b.1 r.1 u.1) (λ next i j. track-most xs end x.tick next top i j u.0 g r.0 r.1 u.1) x.item refl
  where
    kept : (m : Mark) (ms : List Mark) → ((j : ℕ) → length (event_bytes true j m) ≤ 6) → ((i j : ℕ) → length (track_bytes (λ x. true) i j ms (last_from end x.tick xs)) ≤ most_of (length xs) (top - x.tick))
        → length (track_bytes (λ x. true) k running (bridged tempo (bridges_of (x.tick - tick)) (m ∷ ms)) (last_from end x.tick xs)) ≤ most_of (suc (length xs)) (top - tick)
    kept m ms six more =
        let n = bridges-most (x.tick - tick) in
        let most =
        bridged-most (bridges_of (x.tick - tick)) tempo (last_from end x.tick xs) (10 + most_of (length xs) (top - x.tick)) k running (m ∷ ms)
        (λ i j. let s = mark-most m i j (last_from end x.tick xs) ms (six j) in omega (arith, s, more (suc i) (running_behind m))) in
        omega (arith, h, b.0, u.0, n, most)

    go : length (track_bytes (λ x. true) k running (marks_from end tick tempo xs) (last_from end tick xs)) ≤ most_of (length xs) (top - tick)
        → ((next i j : ℕ) → length (track_bytes (λ x. true) i j (marks_from end x.tick next xs) (last_from end x.tick xs)) ≤ most_of (length xs) (top - x.tick))
        → (i : Item) → x.item ≡ i → length (track_bytes (λ x. true) k running (marks_from end tick tempo (x ∷ xs)) (last_from end tick (x ∷ xs))) ≤ most_of (suc (length xs)) (top - tick)
    go left more Bad p = let a = adds-bad x xs 0 end tick tempo p in rw (a.1, a.2) (omega (arith, left))
    go left more End p = let a = adds-end x xs 0 end tick tempo p in rw (a.1, a.2) (omega (arith, left))
    go left more (Passed behind) p = let a = adds-passed x xs 0 end tick tempo behind p in rw (a.1, a.2) (omega (arith, left))
    go left more (Tempo next behind) p =
        let a = adds-tempo x xs 0 end tick tempo next behind p in
        rw (a.1, a.2)
        (kept (Mark.Tempo (rest_of (x.tick - tick)) next) (marks_from end x.tick next xs) (λ j. omega (arith, tempo-six j (rest_of (x.tick - tick)) next)) (λ i j. more next i j))
    go left more (Channel status first second behind) p =
        let a = adds-channel x xs 0 end tick tempo status first second behind p in
        rw (a.1, a.2)
        (kept (Mark.Channel (rest_of (x.tick - tick)) status first second) (marks_from end x.tick tempo xs)
        (λ j. omega (arith, channel-most j (rest_of (x.tick - tick)) status first second)) (λ i j. more tempo i j))

-- nothing is in front of tick 0
none-negative : (es : List Entry) → NoneBefore 0 es
none-negative [] = tt
none-negative (e ∷ es) = (omega arith, none-negative es)

-- so a chunk's length always says it
pub never-so-long : NeverSoLong
unfolding joined_file score_of
never-so-long b count division at a short f =
    let es = sequence_of count b at in
    let front : FrontIn b (Front.Song count division at) = subst (λ (x : Front). FrontIn b x) f (front-in b) in
    let few = tracks-few b a short count at front.1 in
    let same = length-order (entries_of b (lanes_from count b at)) in
    let under = sequence-under b a short count at in
    let rise = order-rises (entries_of b (lanes_from count b at)) in
    let most =
    track-most es (last_end_from 0 es) 0 500000 4503599627370496 0 0 (omega arith) (end-under es 0 4503599627370496 (omega arith) under) (none-negative es) rise under in
    let size = (written (λ k. true) (score_of division es)).size in
    omega (arith, few, same, most, size, short)

-- ---- 4. The room

-- a room that is held at a length that nothing has
fitted-held : (room most : ℕ) (bytes : List ℕ) → length bytes ≤ most → fitted (min room most) bytes ≡ fitted room bytes
unfolding fitted
fitted-held room most bytes h = go (ltb room (length bytes)) refl
  where
    go : (t : Bool) → ltb room (length bytes) ≡ t
        → cond (ltb (min room most) (length bytes)) (Joined.Declined 43 0) (Joined.Issued bytes) ≡ cond (ltb room (length bytes)) (Joined.Declined 43 0) (Joined.Issued bytes)
    go true t = let l = ltb-true room (length bytes) t in rw (t, lt-ltb (min room most) (length bytes) (omega (arith, l))) refl
    go false t = let l = ltb-false room (length bytes) t in rw (t, le-ltb (min room most) (length bytes) (omega (arith, l, h))) refl

-- so the 32 bits never refuse a song
pub room-is-length : RoomIsLength
unfolding joined_of
room-is-length b out a = go (ltb 16777216 (length b)) refl (front_of b) refl
  where
    go : (t : Bool) → ltb 16777216 (length b) ≡ t → (x : Front) → front_of b ≡ x → merged_of b (room_of out) ≡ merged_of b (length out)
    go true t x f = let l = ltb-true 16777216 (length b) t in merged-long b (room_of out) l ∙ sym (merged-long b (length out) l)
    go false t (Front.Refused number place) f =
        let l = ltb-false 16777216 (length b) t in
        merged-front b (room_of out) number place l f ∙ sym (merged-front b (length out) number place l f)
    go false t (Front.Song count division at) f =
        let l = ltb-false 16777216 (length b) t in
        merged-song b (room_of out) count division at l f
        ∙ ap (judged (late_of division (sequence_of count b at)) (flaw_in count b at)) (fitted-held (length out) 4294967317 (joined_file division (sequence_of count b at)) (never-so-long b count division at a l f))
        ∙ sym (merged-song b (length out) count division at l f)
