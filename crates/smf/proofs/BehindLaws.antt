-- Bytes behind the end of track change nothing: each definition gives the same where the bytes in front of the place that it leads to are the same.
use Rattle.smf.specs.declared.Quantity.{Quantity}
use Rattle.std.proofs.Common.{Option, Some, None}
use mathlib.Core.Bool.{Bool, true, false, cond, true≢false, not, ◌||◌}
use mathlib.Core.List.{List, [], ◌∷◌, ◌++◌}
use mathlib.Core.Logic.{◌⊎◌, inl, inr, ⊎_elim}
use mathlib.Core.Path.{◌≡◌, refl, sym, ap, ap₂, subst, ◌∙◌}
use Prim.Native.Nat.{ℕ, zero, suc, ◌+◌, ◌*◌, ◌-◌, ◌<◌, ◌≤◌}
use native.Mathlib.Nat.{le_refl, le_of_eq}
use native.Mathlib.Omega.{arith}
use lib.Dec.{ltb, leb, eqb}
use lib.ListN.{length, get_or-append}
use borrow.Author.Tests.{ltb-false, le-ltb, eqb-true, eqb-false, not-false}
use Rattle.arith.specs.Bytes.{u8_at}
use Rattle.arith.specs.Holds.{between}
use Rattle.smf.specs.declared.Cursor.{Cursor}
use Rattle.smf.specs.declared.Event.{Event}
use Rattle.smf.specs.declared.Header.{Header}
use Rattle.smf.specs.declared.Item.{Item}
use Rattle.smf.specs.declared.Met.{Met}
use Rattle.smf.specs.Quantities.{two_at, three_at, four_at, quantity_from, quantity_at, quantity}
use Rattle.smf.specs.Head.{chunk_end, track_from, head_of}
use Rattle.smf.specs.Items.{is_channel, is_short, short_at, long_at, spoken_at, exclusive_at, meta_of, meta_at, is_exclusive, item_at}
use Rattle.smf.specs.Ticks.{sum_after, is_late, frame_of}
use Rattle.smf.specs.Track.{Song, Events, Refused, edge_of, is_bad, carried, event_of, acted, obeyed, meet_at, behind_event, song_from}
use Rattle.smf.specs.Songs.{start_at, turns, events_of}
use Rattle.smf.specs.Reading.{entry}
use Rattle.smf.specs.Behind.{behind_end, behind_met, end_from, end_of_track, chunk_of_track, EndsInChunk, SameBelow, BehindChangesNothing, TailChangesNothing, BehindReadsTheSame}
use Rattle.smf.proofs.HeadLaws.{Named, Held, Single, end_after, head-good}
use Rattle.smf.proofs.MeetingLaws.{meet-bad, meet-good}
use Rattle.smf.proofs.QuantitiesLaws.{bad-good, from-behind, quantity-behind}
use Rattle.smf.proofs.ItemsLaws.{either, neither, Placed, item-placed}
use Rattle.smf.proofs.TrackLaws.{song-is, meet-passed, meet-given, further-edge, song-enough}
use Rattle.smf.proofs.SongsLaws.{events-is, has-track}
use Rattle.smf.proofs.ReadingLaws.{reads_all}

-- ---- 1. Tests

-- which way a test went
pub split : {A : Type 0} (t : Bool) {x y z : A} → cond t x y ≡ z → ((t ≡ true) × (x ≡ z)) ⊎ ((t ≡ false) × (y ≡ z))
split true e = inl (refl, e)
split false e = inr (refl, e)

-- a relation of two values by one test
both : {A : Type 0} (R : A → A → Type 0) (t : Bool) (x y x2 y2 : A) → R x x2 → R y y2 → R (cond t x y) (cond t x2 y2)
both R true x y x2 y2 p q = p
both R false x y x2 y2 p q = q

-- ---- 2. Numbers and quantities

module _ (b other : List ℕ) where
  -- fewer bytes are the same too
  same-le : (p q : ℕ) → SameBelow b other q → p ≤ q → SameBelow b other p
  same-le p q s l i h = s i (omega arith)

  -- the other file has the same number of two bytes
  two-same : (at q : ℕ) → SameBelow b other q → at + 2 ≤ q → two_at other at ≡ two_at b at
  unfolding two_at
  two-same at q s h = rw (s at (omega arith), s (at + 1) (omega arith))

  -- .. of three
  three-same : (at q : ℕ) → SameBelow b other q → at + 3 ≤ q → three_at other at ≡ three_at b at
  unfolding three_at
  three-same at q s h = rw (two-same at q s (omega arith), s (at + 2) (omega arith))

  -- .. of four
  four_same : (at q : ℕ) → SameBelow b other q → at + 4 ≤ q → four_at other at ≡ four_at b at
  unfolding four_at
  four_same at q s h = rw (two-same at q s (omega arith), two-same (at + 2) q s (omega arith))

  -- the same rest of a quantity
  quantity-same : (n edge at v value behind : ℕ) → quantity_from n b edge at v ≡ quantity value behind → SameBelow b other behind
      → quantity_from n other edge at v ≡ quantity value behind
  unfolding quantity_from
  quantity-same zero edge at v value behind e s = e
  quantity-same (suc n) edge at v value behind e s =
      let x : u8_at other at ≡ u8_at b at = s at (from-behind (suc n) b edge at v value behind e).0 in
      ⊎_elim
      (λ h.
      ⊎_elim (λ k. rw (x, h.0, k.0) k.1)
      (λ k. rw (x, h.0, k.0) (quantity-same n edge (at + 1) (v * 128 + (u8_at b at - 128)) value behind k.1 s))
      (split (ltb (u8_at b at) 128) h.1))
      (λ h. absurd (bad-good value behind h.1))
      (split (ltb at edge) e)

  -- the same quantity
  quantity-at-same : (edge at value behind : ℕ) → quantity_at b edge at ≡ quantity value behind → SameBelow b other behind → quantity_at other edge at ≡ quantity value behind
  unfolding quantity_at
  quantity-at-same edge at value behind e s = quantity-same 4 edge at 0 value behind e s

-- ---- 3. Events

-- the place behind an event, where that of an end of track is `end`
abbrev reach : Item → ℕ → ℕ
reach Item.Bad end = end
reach Item.End end = end
reach (Item.Passed behind) end = behind
reach (Item.Tempo tempo behind) end = behind
reach (Item.Channel status first second behind) end = behind

-- a test that leads to no bad event
unbad : (t : Bool) (x : Item) → is_bad (cond t Item.Bad x) ≡ false → t ≡ false
unbad true x n = absurd (true≢false n)
unbad false x n = refl

-- an event reaches behind its place
reach-ahead : (edge at end : ℕ) (x : Item) → Placed edge at x → is_bad x ≡ false → at < end → at < reach x end
reach-ahead edge at end Item.Bad p n h = h
reach-ahead edge at end Item.End p n h = h
reach-ahead edge at end (Item.Passed behind) p n h = p.0
reach-ahead edge at end (Item.Tempo tempo behind) p n h = p.0
reach-ahead edge at end (Item.Channel status first second behind) p n h = p.after

-- a system exclusive event by the quantity that is its length
abbrev exclusive_by : ℕ → Option Quantity → Item
exclusive_by edge q = elim q [ None ↦ Item.Bad | Some q ↦ cond (ltb edge (q.behind + q.value)) Item.Bad (Item.Passed (q.behind + q.value)) ]

-- a meta event by its type and the quantity that is its length
abbrev meta_by : List ℕ → ℕ → ℕ → Option Quantity → Item
meta_by b edge kind q = elim q [ None ↦ Item.Bad | Some q ↦ cond (ltb 127 kind || ltb edge (q.behind + q.value)) Item.Bad (meta_of b kind q.value q.behind) ]

-- an event by its first byte
abbrev item_by : List ℕ → ℕ → ℕ → ℕ → ℕ → Item
item_by b edge running at x =
    cond (leb edge at) Item.Bad (cond (ltb x 128) (cond (is_channel running) (spoken_at b edge running at) Item.Bad) (cond (ltb x 240) (spoken_at b edge x (at + 1)) (cond (eqb x 255) (meta_at b edge (at + 1)) (cond (eqb x 240 || eqb x 247) (exclusive_at b edge (at + 1)) Item.Bad))))

module _ (b other : List ℕ) (edge end : ℕ) where
  -- the other file has the same event
  abbrev Kept : Item → Item → Type 0
  Kept x y = is_bad x ≡ false → SameBelow b other (reach x end) → y ≡ x

  -- a bad event is kept
  bad-same : Kept Item.Bad Item.Bad
  bad-same n s = refl

  -- the same event with one data byte
  short-same : (status at : ℕ) → Kept (short_at b edge status at) (short_at other edge status at)
  unfolding short_at
  short-same status at n s =
      let e = unbad (ltb edge (at + 1) || ltb 127 (u8_at b at)) (Item.Channel status (u8_at b at) 0 (at + 1)) n in
      let r : at < reach (short_at b edge status at) end = rw e (omega arith) in
      rw (s at r) refl

  -- .. with two
  long_same : (status at : ℕ) → Kept (long_at b edge status at) (long_at other edge status at)
  unfolding long_at
  long_same status at n s =
      let e = unbad (ltb edge (at + 2) || ltb 127 (u8_at b at) || ltb 127 (u8_at b (at + 1))) (Item.Channel status (u8_at b at) (u8_at b (at + 1)) (at + 2)) n in
      let r : at + 1 < reach (long_at b edge status at) end = rw e (omega arith) in
      rw (s at (omega arith), s (at + 1) r) refl

  -- the same channel event
  channel-same : (status at : ℕ) → Kept (spoken_at b edge status at) (spoken_at other edge status at)
  unfolding spoken_at
  channel-same status at =
      both Kept (is_short status) (short_at b edge status at) (long_at b edge status at) (short_at other edge status at) (long_at other edge status at) (short-same status at) (long_same status at)

  -- the same system exclusive event
  exclusive-same : (at : ℕ) → Kept (exclusive_at b edge at) (exclusive_at other edge at)
  unfolding exclusive_at
  exclusive-same at = go (quantity_at b edge at) refl
    where
      go : (q : Option Quantity) → quantity_at b edge at ≡ q → Kept (exclusive_at b edge at) (exclusive_at other edge at)
      go None e n s = absurd (true≢false (subst (λ (x : Item). is_bad x ≡ false) (ap (exclusive_by edge) e) n))
      go (Some q) e n s =
          let eb : exclusive_at b edge at ≡ exclusive_by edge (quantity q.value q.behind) = ap (exclusive_by edge) e in
          let t = unbad (ltb edge (q.behind + q.value)) (Item.Passed (q.behind + q.value)) (subst (λ (x : Item). is_bad x ≡ false) eb n) in
          let whole : exclusive_at b edge at ≡ Item.Passed (q.behind + q.value) = eb ∙ rw t refl in
          let low : SameBelow b other (q.behind + q.value) = subst (λ (x : Item). SameBelow b other (reach x end)) whole s in
          ap (exclusive_by edge) (quantity-at-same b other edge at q.value q.behind e (same-le b other q.behind (q.behind + q.value) low (omega arith)) ∙ sym e)

  -- what a meta event leads to lies behind its bytes
  meta-reach : (kind n at : ℕ) → at + n ≤ end → at + n ≤ reach (meta_of b kind n at) end
  unfolding meta_of
  meta-reach kind n at h =
      either P (eqb kind 47) Item.End (cond (eqb kind 81) (cond (ltb n 3) Item.Bad (Item.Tempo (three_at b at) (at + n))) (Item.Passed (at + n))) (λ e. h)
      (λ e.
      either P (eqb kind 81) (cond (ltb n 3) Item.Bad (Item.Tempo (three_at b at) (at + n))) (Item.Passed (at + n))
      (λ f. either P (ltb n 3) Item.Bad (Item.Tempo (three_at b at) (at + n)) (λ g. h) (λ g. le_refl (at + n))) (λ f. le_refl (at + n)))
    where
      P : Item → Type 0
      P x = at + n ≤ reach x end

  -- a meta event of one type reads its own bytes alone
  meta-of-same : (kind n at : ℕ) → SameBelow b other (at + n) → meta_of other kind n at ≡ meta_of b kind n at
  unfolding meta_of
  meta-of-same kind n at s =
      ap (λ (x : Item). cond (eqb kind 47) Item.End (cond (eqb kind 81) x (Item.Passed (at + n)))) (go (ltb n 3) refl)
    where
      go : (t : Bool) → ltb n 3 ≡ t → cond t Item.Bad (Item.Tempo (three_at other at) (at + n)) ≡ cond t Item.Bad (Item.Tempo (three_at b at) (at + n))
      go true e = refl
      go false e = ap (λ (v : ℕ). Item.Tempo v (at + n)) (three-same b other at (at + n) s (omega (arith, ltb-false n 3 e)))

  -- the same meta event
  meta-same : (at : ℕ) → ((n p : ℕ) → quantity_at b edge (at + 1) ≡ quantity n p → p + n ≤ end) → Kept (meta_at b edge at) (meta_at other edge at)
  unfolding meta_at
  meta-same at ends = go (quantity_at b edge (at + 1)) refl
    where
      go : (q : Option Quantity) → quantity_at b edge (at + 1) ≡ q → Kept (meta_at b edge at) (meta_at other edge at)
      go None e n s = absurd (true≢false (subst (λ (x : Item). is_bad x ≡ false) (ap (meta_by b edge (u8_at b at)) e) n))
      go (Some q) e n s =
          let eb : meta_at b edge at ≡ meta_by b edge (u8_at b at) (quantity q.value q.behind) = ap (meta_by b edge (u8_at b at)) e in
          let t = unbad (ltb 127 (u8_at b at) || ltb edge (q.behind + q.value)) (meta_of b (u8_at b at) q.value q.behind) (subst (λ (x : Item). is_bad x ≡ false) eb n) in
          let whole : meta_at b edge at ≡ meta_of b (u8_at b at) q.value q.behind = eb ∙ rw t refl in
          let all : SameBelow b other (reach (meta_of b (u8_at b at) q.value q.behind) end) = subst (λ (x : Item). SameBelow b other (reach x end)) whole s in
          let low : SameBelow b other (q.behind + q.value) = same-le b other (q.behind + q.value) (reach (meta_of b (u8_at b at) q.value q.behind) end) all (meta-reach (u8_at b at) q.value q.behind (ends q.value q.behind e)) in
          let x : u8_at other at ≡ u8_at b at = low at (omega (arith, (quantity-behind b edge (at + 1) q.value q.behind e).0)) in
          ap (meta_by other edge (u8_at other at)) (quantity-at-same b other edge (at + 1) q.value q.behind e (same-le b other q.behind (q.behind + q.value) low (omega arith)))
          ∙ ap (λ (v : ℕ). meta_by other edge v (quantity q.value q.behind)) x
          ∙ ap (λ (m : Item). cond (ltb 127 (u8_at b at) || ltb edge (q.behind + q.value)) Item.Bad m) (meta-of-same (u8_at b at) q.value q.behind low)
          ∙ sym eb

  -- the same event, where its first byte is the same
  item-by-same : (running at x : ℕ) → ((n p : ℕ) → quantity_at b edge (at + 1 + 1) ≡ quantity n p → p + n ≤ end) → Kept (item_by b edge running at x) (item_by other edge running at x)
  item-by-same running at x ends =
      both Kept (leb edge at) _ _ _ _ bad-same
      (both Kept (ltb x 128) _ _ _ _ (both Kept (is_channel running) _ _ _ _ (channel-same running at) bad-same)
      (both Kept (ltb x 240) _ _ _ _ (channel-same x (at + 1))
      (both Kept (eqb x 255) _ _ _ _ (meta-same (at + 1) ends) (both Kept (eqb x 240 || eqb x 247) _ _ _ _ (exclusive-same (at + 1)) bad-same))))

  -- the same event at a place
  item-same : (running at : ℕ) → at < end → ((n p : ℕ) → quantity_at b edge (at + 1 + 1) ≡ quantity n p → p + n ≤ end) → Kept (item_at b edge running at) (item_at other edge running at)
  unfolding item_at
  item-same running at h ends n s =
      let x : u8_at other at ≡ u8_at b at = s at (reach-ahead edge at end (item_at b edge running at) (item-placed b edge running at) n h) in
      ap (item_by other edge running at) x ∙ item-by-same running at (u8_at b at) ends n s

-- ---- 4. The end of track

module _ (b : List ℕ) (edge at : ℕ) where
  -- behind the bytes of an end of track
  end-behind : (n p : ℕ) → quantity_at b edge (at + 1 + 1) ≡ quantity n p → behind_end b edge at ≡ p + n
  unfolding behind_end
  end-behind n p e =
      let z : at + 1 + 1 ≡ at + 2 = omega arith in
      let f : quantity_at b edge (at + 2) ≡ quantity n p = subst (λ (q : ℕ). quantity_at b edge q ≡ quantity n p) z e in
      ap (λ (q : Option Quantity). elim q as (λ x. ℕ) [ None ↦ at + 2 | Some q ↦ q.behind + q.value ]) f

  -- an end of track ends behind its place
  end-ahead : at < behind_end b edge at
  unfolding behind_end
  end-ahead = go (quantity_at b edge (at + 2)) refl
    where
      go : (q : Option Quantity) → quantity_at b edge (at + 2) ≡ q → at < elim q as (λ x. ℕ) [ None ↦ at + 2 | Some q ↦ q.behind + q.value ]
      go None e = omega arith
      go (Some q) e = omega (arith, (quantity-behind b edge (at + 2) q.value q.behind e).0)

-- ---- 5. What is met at a cursor

-- the place that it leads to, where that behind an end of track is `end`
abbrev reach_met : Met → ℕ → ℕ
reach_met (Met.Fault number place) end = end
reach_met Met.End end = end
reach_met (Met.Passed further) end = further.at
reach_met (Met.Given message further) end = further.at

-- a fault is met
abbrev is_fault : Met → Bool
is_fault (Met.Fault number place) = true
is_fault Met.End = false
is_fault (Met.Passed further) = false
is_fault (Met.Given message further) = false

-- a test that leads to no fault
unfault : (t : Bool) (place : ℕ) (x : Met) → is_fault (cond t (Met.Fault 11 place) x) ≡ false → t ≡ false
unfault true place x n = absurd (true≢false n)
unfault false place x n = refl

-- an event that is obeyed is no bad one, and leads behind itself
obeyed-reach : (x : Item) (c : Cursor) (sum place end : ℕ) → is_fault (obeyed x c sum place) ≡ false
    → (is_bad x ≡ false) × (reach_met (obeyed x c sum place) end ≡ reach x end)
unfolding obeyed acted
obeyed-reach Item.Bad c sum place end n = absurd (true≢false n)
obeyed-reach Item.End c sum place end n = (refl, rw (unfault (is_late c.division sum) place Met.End n) refl)
obeyed-reach (Item.Passed behind) c sum place end n =
    (refl, rw (unfault (is_late c.division sum) place (Met.Passed (carried c sum behind 0 c.tempo)) n) refl)
obeyed-reach (Item.Tempo tempo behind) c sum place end n =
    (refl, rw (unfault (is_late c.division sum) place (Met.Passed (carried c sum behind 0 tempo)) n) refl)
obeyed-reach (Item.Channel status first second behind) c sum place end n =
    (refl, rw (unfault (is_late c.division sum) place (Met.Given (record { status = status; first = first; second = second }) (carried c sum behind status c.tempo)) n) refl)

module _ (b : List ℕ) (c : Cursor) where
  -- behind the end of track, by the delta time
  behind-is : (ticks place : ℕ) → quantity_at b (edge_of b c) c.at ≡ quantity ticks place → behind_met b c ≡ behind_end b (edge_of b c) place
  unfolding behind_met
  behind-is ticks place e = ap (λ (q : Option Quantity). elim q as (λ x. ℕ) [ None ↦ c.at | Some q ↦ behind_end b (edge_of b c) q.behind ]) e

  -- the end of track lies behind its cursor
  met-ahead : c.at ≤ behind_met b c
  unfolding behind_met
  met-ahead = go (quantity_at b (edge_of b c) c.at) refl
    where
      go : (q : Option Quantity) → quantity_at b (edge_of b c) c.at ≡ q → c.at ≤ elim q as (λ x. ℕ) [ None ↦ c.at | Some q ↦ behind_end b (edge_of b c) q.behind ]
      go None e = le_refl c.at
      go (Some q) e = omega (arith, (quantity-behind b (edge_of b c) c.at q.value q.behind e).0, end-ahead b (edge_of b c) q.behind)

-- the other file has the same event at a cursor
meet-same : (b other : List ℕ) (c : Cursor) → edge_of other c ≡ edge_of b c → is_fault (meet_at b c) ≡ false
    → SameBelow b other (reach_met (meet_at b c) (behind_met b c)) → meet_at other c ≡ meet_at b c
meet-same b other c f n s = go (quantity_at b (edge_of b c) c.at) refl
  where
    go : (q : Option Quantity) → quantity_at b (edge_of b c) c.at ≡ q → meet_at other c ≡ meet_at b c
    go None e = absurd (true≢false (subst (λ (m : Met). is_fault m ≡ false) (meet-bad b c e) n))
    go (Some y) e =
        let edge = edge_of b c in
        let end = behind_end b edge y.behind in
        let x = item_at b edge c.running y.behind in
        let whole = meet-good b c y.value y.behind e in
        let o = obeyed-reach x c (sum_after c y.value) y.behind end (subst (λ (m : Met). is_fault m ≡ false) whole n) in
        let low : SameBelow b other (reach x end) = subst (λ (p : ℕ). SameBelow b other p) (ap₂ reach_met whole (behind-is b c y.value y.behind e) ∙ o.1) s in
        let past = reach-ahead edge y.behind end x (item-placed b edge c.running y.behind) o.0 (end-ahead b edge y.behind) in
        let q : quantity_at other edge c.at ≡ quantity y.value y.behind = quantity-at-same b other edge c.at y.value y.behind e (same-le b other y.behind (reach x end) low (omega (arith, past))) in
        let i = item-same b other edge end c.running y.behind (end-ahead b edge y.behind) (λ n p f. le_of_eq (sym (end-behind b edge y.behind n p f))) o.0 low in
        meet-good other c y.value y.behind (subst (λ (e : ℕ). quantity_at other e c.at ≡ quantity y.value y.behind) (sym f) q)
        ∙ ap (λ (e : ℕ). obeyed (item_at other e c.running y.behind) c (sum_after c y.value) y.behind) f
        ∙ ap (λ (z : Item). obeyed z c (sum_after c y.value) y.behind) i
        ∙ sym whole

-- ---- 6. The song from a cursor on

-- the place behind the end of track of one turn more, by what is met
abbrev end_by : ℕ → List ℕ → Cursor → Met → ℕ
end_by n b c m =
    elim m [
      | Met.Fault number place ↦ c.at
      | Met.End ↦ behind_met b c
      | Met.Passed further ↦ end_from n b further
      | Met.Given message further ↦ end_from n b further
    ]

-- the end of track, where it is known what is met
end_is : (n : ℕ) (b : List ℕ) (c : Cursor) (m : Met) → meet_at b c ≡ m → end_from (suc n) b c ≡ end_by n b c m
unfolding end_from
end_is n b c m e = ap (end_by n b c) e

-- a song that is refused
abbrev refuses : Song → Bool
refuses (Refused number place) = true
refuses (Events es) = false

-- an event in front refuses nothing
refuses-behind : (event : Event) (x : Song) → refuses (behind_event event x) ≡ refuses x
refuses-behind event (Refused number place) = refl
refuses-behind event (Events es) = refl

-- the end of track lies behind every cursor that leads to it
song-ahead : (n : ℕ) (b : List ℕ) (c : Cursor) → c.at ≤ end_from n b c
song-ahead zero b c = unfold end_from in le_refl c.at
song-ahead (suc n) b c = go (λ f. song-ahead n b f) (meet_at b c) refl
  where
    go : ((f : Cursor) → f.at ≤ end_from n b f) → (m : Met) → meet_at b c ≡ m → c.at ≤ end_from (suc n) b c
    go more (Met.Fault number place) e = rw (end_is n b c (Met.Fault number place) e) (le_refl c.at)
    go more Met.End e = rw (end_is n b c Met.End e) (met-ahead b c)
    go more (Met.Passed further) e = rw (end_is n b c (Met.Passed further) e) (omega (arith, more further, (meet-passed b c further e).after))
    go more (Met.Given message further) e =
        rw (end_is n b c (Met.Given message further) e) (omega (arith, more further, (meet-given b c message further e).0.after))

-- the other file has the same song from a cursor on
song-same : (n : ℕ) (b other : List ℕ) (c : Cursor) → c.end ≤ length b → c.end ≤ length other → refuses (song_from n b c) ≡ false
    → SameBelow b other (end_from n b c) → song_from n other c ≡ song_from n b c
song-same zero b other c h k r s = unfold song_from in refl
song-same (suc n) b other c h k r s = go (λ f. song-same n b other f) (meet_at b c) refl
  where
    edges : edge_of other c ≡ edge_of b c
    edges = omega arith

    met : (m : Met) → meet_at b c ≡ m → is_fault m ≡ false → reach_met m (behind_met b c) ≤ end_from (suc n) b c → meet_at other c ≡ m
    met m e f l =
        meet-same b other c edges (subst (λ (x : Met). is_fault x ≡ false) (sym e) f)
        (same-le b other (reach_met (meet_at b c) (behind_met b c)) (end_from (suc n) b c) s (subst (λ (x : Met). reach_met x (behind_met b c) ≤ end_from (suc n) b c) (sym e) l))
        ∙ e

    go : ((f : Cursor) → f.end ≤ length b → f.end ≤ length other → refuses (song_from n b f) ≡ false → SameBelow b other (end_from n b f) → song_from n other f ≡ song_from n b f)
        → (m : Met) → meet_at b c ≡ m → song_from (suc n) other c ≡ song_from (suc n) b c
    go more (Met.Fault number place) e = absurd (true≢false (subst (λ (x : Song). refuses x ≡ false) (song-is b c n (Met.Fault number place) e) r))
    go more Met.End e = song-is other c n Met.End (met Met.End e refl (le_of_eq (sym (end_is n b c Met.End e)))) ∙ sym (song-is b c n Met.End e)
    go more (Met.Passed further) e =
        let ends = end_is n b c (Met.Passed further) e in
        let same = (meet-passed b c further e).same_end in
        let whole = song-is b c n (Met.Passed further) e in
        song-is other c n (Met.Passed further) (met (Met.Passed further) e refl (rw ends (song-ahead n b further)))
        ∙ more further (omega arith) (omega arith) (subst (λ (x : Song). refuses x ≡ false) whole r) (subst (λ (q : ℕ). SameBelow b other q) ends s)
        ∙ sym whole
    go more (Met.Given message further) e =
        let ends = end_is n b c (Met.Given message further) e in
        let same = (meet-given b c message further e).0.same_end in
        let whole = song-is b c n (Met.Given message further) e in
        let fine = sym (refuses-behind (event_of message further) (song_from n b further)) ∙ subst (λ (x : Song). refuses x ≡ false) whole r in
        song-is other c n (Met.Given message further) (met (Met.Given message further) e refl (rw ends (song-ahead n b further)))
        ∙ ap (behind_event (event_of message further)) (more further (omega arith) (omega arith) fine (subst (λ (q : ℕ). SameBelow b other q) ends s))
        ∙ sym whole

-- ---- 7. The head

-- a test that leads to the track
unrefused : (t : Bool) (number place at end : ℕ) (x : Header) → cond t (Header.Refused number place) x ≡ Header.Track at end → (t ≡ false) × (x ≡ Header.Track at end)
unrefused true number place at end x e = let z : ◌≡◌ {A = ℕ} 0 1 = cc in absurd (omega arith)
unrefused false number place at end x e = (refl, e)

-- the same chunk
chunk-same : (b other : List ℕ) (at q : ℕ) → SameBelow b other q → at + 8 ≤ q → chunk_end other at ≡ chunk_end b at
unfolding chunk_end
chunk-same b other at q s h = rw (four_same b other (at + 4) q s (omega arith)) refl

-- a test that two numbers are not the same
same_number : (m n : ℕ) → not (eqb m n) ≡ false → m ≡ n
same_number m n e = eqb-true m n (not-false (eqb m n) e)

-- the fields of a head of format 0 with one track
pub single-head : (b : List ℕ) → four_at b 0 ≡ 1297377380 → 6 ≤ four_at b 4 → chunk_end b 0 ≤ length b → two_at b 8 ≡ 0 → two_at b 10 ≡ 1 → Single b
single-head b name six inside format one =
    let named : Named b = record { name = name } in
    let held : Held b = record { named = named; six = six; in-file = inside } in
    record { formatted = record { held = held; zero-format = format }; one = one }

-- the track lies behind the chunks in front of it, and in the file
track-lies : (n : ℕ) (b : List ℕ) (p at end : ℕ) → track_from n b p ≡ Header.Track at end → (p + 8 ≤ at) × (at ≤ end) × (end ≤ length b)
unfolding track_from
track-lies zero b p at end e = let z : ◌≡◌ {A = ℕ} 0 1 = cc in absurd (omega arith)
track-lies (suc n) b p at end e =
    let u = unrefused (ltb (length b) (p + 4)) 9 p at end _ e in
    let v = unrefused (ltb (length b) (chunk_end b p)) 9 (p + 4) at end _ u.1 in
    let fits = ltb-false (length b) (chunk_end b p) v.0 in
    let past = end_after b p in
    ⊎_elim
    (λ k.
    let x : p + 8 ≡ at = cc k.1 in
    let y : chunk_end b p ≡ end = cc k.1 in
    (omega arith, omega arith, omega arith))
    (λ k.
    let r = track-lies n b (chunk_end b p) at end k.1 in
    (omega arith, r.1, r.2))
    (split (eqb (four_at b p) 1297379947) v.1)

-- the same track, where the chunks that may be looked at are enough
track-same : (n m : ℕ) (b other : List ℕ) (p at end : ℕ) → track_from n b p ≡ Header.Track at end → at < p + 8 + m → end ≤ length other → SameBelow b other at
    → track_from m other p ≡ Header.Track at end
unfolding track_from
track-same zero m b other p at end e h k s = let z : ◌≡◌ {A = ℕ} 0 1 = cc in absurd (omega arith)
track-same (suc n) zero b other p at end e h k s = absurd (omega (arith, (track-lies (suc n) b p at end e).0))
track-same (suc n) (suc m) b other p at end e h k s =
    let found = track-lies (suc n) b p at end e in
    let u = unrefused (ltb (length b) (p + 4)) 9 p at end _ e in
    let v = unrefused (ltb (length b) (chunk_end b p)) 9 (p + 4) at end _ u.1 in
    let past = end_after b p in
    let named = le-ltb (length other) (p + 4) (omega arith) in
    let ends = chunk-same b other p at s found.0 in
    let name = four_same b other p at s (omega arith) in
    ⊎_elim
    (λ w.
    let y : chunk_end b p ≡ end = cc w.1 in
    rw (named, ends, le-ltb (length other) (chunk_end b p) (omega arith), name, w.0) w.1)
    (λ w.
    let r = track-lies n b (chunk_end b p) at end w.1 in
    rw (named, ends, le-ltb (length other) (chunk_end b p) (omega arith), name, w.0) (track-same n m b other (chunk_end b p) at end w.1 (omega arith) k s))
    (split (eqb (four_at b p) 1297379947) v.1)

-- a good head, and the track that it leads to
record Good-head (b : List ℕ) (at end : ℕ) : Type 0 where
  single : Single b
  some : two_at b 12 ≡ 0 → ⊥
  ticks : two_at b 12 ≤ 32767
  track : track_from (length b) b (chunk_end b 0) ≡ Header.Track at end

-- a head that leads to a track passes its tests
good-head : (b : List ℕ) (at end : ℕ) → head_of b ≡ Header.Track at end → Good-head b at end
unfolding head_of
good-head b at end e =
    let u1 = unrefused (not (eqb (four_at b 0) 1297377380)) 9 0 at end _ e in
    let u2 = unrefused (ltb (four_at b 4) 6 || ltb (length b) (chunk_end b 0)) 9 4 at end _ u1.1 in
    let u3 = unrefused (not (eqb (two_at b 8) 0)) 10 8 at end _ u2.1 in
    let u4 = unrefused (not (eqb (two_at b 10) 1)) 9 10 at end _ u3.1 in
    let u5 = unrefused (eqb (two_at b 12) 0) 9 12 at end _ u4.1 in
    let u6 = unrefused (ltb 32767 (two_at b 12)) 10 12 at end _ u5.1 in
    let w = neither (ltb (four_at b 4) 6) (ltb (length b) (chunk_end b 0)) u2.0 in
    record {
      single = single-head b (same_number (four_at b 0) 1297377380 u1.0) (ltb-false (four_at b 4) 6 w.0) (ltb-false (length b) (chunk_end b 0) w.1) (same_number (two_at b 8) 0 u3.0) (same_number (two_at b 10) 1 u4.0);
      some = eqb-false (two_at b 12) 0 u5.0;
      ticks = ltb-false 32767 (two_at b 12) u6.0;
      track = u6.1;
    }

-- what follows a good head begins at byte 14 or later
head-ends : (b : List ℕ) → 6 ≤ four_at b 4 → 14 ≤ chunk_end b 0
unfolding chunk_end
head-ends b h = omega arith

-- the track that the head leads to lies in the file
head-found : (b : List ℕ) (at end : ℕ) → head_of b ≡ Header.Track at end → (22 ≤ at) × (at ≤ end) × (end ≤ length b)
head-found b at end e =
    let g = good-head b at end e in
    let r = track-lies (length b) b (chunk_end b 0) at end g.track in
    let l = head-ends b g.single.formatted.held.six in
    (omega arith, r.1, r.2)

-- the same head
head-same : (b other : List ℕ) (at end : ℕ) → head_of b ≡ Header.Track at end → end ≤ length other → SameBelow b other at → head_of other ≡ Header.Track at end
head-same b other at end e k s =
    let g = good-head b at end e in
    let f = g.single.formatted in
    let r = track-lies (length b) b (chunk_end b 0) at end g.track in
    let l = head-ends b f.held.six in
    let length-field = four_same b other 4 at s (omega arith) in
    let division = two-same b other 12 at s (omega arith) in
    let ends = chunk-same b other 0 at s (omega arith) in
    let six : 6 ≤ four_at other 4 = omega (arith, f.held.six) in
    let single = single-head other (four_same b other 0 at s (omega arith) ∙ f.held.named.name) six (omega arith) (two-same b other 8 at s (omega arith) ∙ f.zero-format) (two-same b other 10 at s (omega arith) ∙ g.single.one) in
    head-good other single (λ z. g.some (sym division ∙ z)) (omega (arith, g.ticks))
    ∙ ap (track_from (length other) other) ends
    ∙ track-same (length b) (length other) b other (chunk_end b 0) at end g.track (omega arith) k s

-- ---- 8. The whole file

-- the place behind the end of track, by the head
end-of-track-is : (b : List ℕ) (at end : ℕ) → head_of b ≡ Header.Track at end → end_of_track b ≡ end_from (turns b) b (start_at b at end)
unfolding end_of_track
end-of-track-is b at end e = rw (e, end_of_track) refl

-- the end of the chunk, by the head
chunk-of-track-is : (b : List ℕ) (at end : ℕ) → head_of b ≡ Header.Track at end → chunk_of_track b ≡ end
unfolding chunk_of_track
chunk-of-track-is b at end e = rw (e, chunk_of_track) refl

-- the same song, whatever its number of turns
songs-same : (b other : List ℕ) (c : Cursor) → c.end ≤ length b → c.end ≤ length other → refuses (song_from (turns b) b c) ≡ false
    → SameBelow b other (end_from (turns b) b c) → song_from (turns other) other c ≡ song_from (turns b) b c
songs-same b other c h k r s =
    song-enough (turns other) (turns b) other c (omega arith) (omega arith) ∙ song-same (turns b) b other c h k r s

-- the same cursor in front of the track
start-same : (b other : List ℕ) (at end : ℕ) → 22 ≤ at → SameBelow b other at → start_at other at end ≡ start_at b at end
start-same b other at end h s = rw (two-same b other 12 at s (omega arith)) refl

-- bytes behind the end of track change nothing
pub behind-changes-nothing : BehindChangesNothing
behind-changes-nothing b other es e s h k =
    let o = has-track b es e in
    let c = start_at b o.at o.end in
    let found = head-found b o.at o.end o.head in
    let long : o.end ≤ length other = subst (λ (n : ℕ). n ≤ length other) (chunk-of-track-is b o.at o.end o.head) h in
    let all : SameBelow b other (end_from (turns b) b c) = subst (λ (n : ℕ). SameBelow b other n) (end-of-track-is b o.at o.end o.head) s in
    let low : SameBelow b other o.at = same-le b other o.at (end_from (turns b) b c) all (omega (arith, song-ahead (turns b) b c)) in
    let song : song_from (turns b) b c ≡ Events es = sym (events-is b o.at o.end o.short o.head) ∙ e in
    events-is other o.at o.end k (head-same b other o.at o.end o.head long low)
    ∙ ap (song_from (turns other) other) (start-same b other o.at o.end found.0 low)
    ∙ songs-same b other c (omega arith) (omega arith) (ap refuses song) all
    ∙ song

-- two files with one first part have its bytes
front_same : (front tail other : List ℕ) (place : ℕ) → place ≤ length front → SameBelow (front ++ tail) (front ++ other) place
unfolding u8_at
front_same front tail other place h i l =
    get_or-append front other 0 i (omega arith) ∙ sym (get_or-append front tail 0 i (omega arith))

-- any other second part will do
pub tail-changes-nothing : TailChangesNothing
tail-changes-nothing front tail other es e h k l =
    behind-changes-nothing (front ++ tail) (front ++ other) es e (front_same front tail other (end_of_track (front ++ tail)) h) k l

-- a reader hands out the same
pub behind-reads-the-same : BehindReadsTheSame
behind-reads-the-same b other es e s h k i =
    reads_all other i ∙ ap (λ (x : Song). entry x i) (behind-changes-nothing b other es e s h k ∙ sym e) ∙ sym (reads_all b i)

-- ---- 9. The end of track lies in the track

-- an end of track
abbrev is_end : Item → Bool
is_end Item.Bad = false
is_end Item.End = true
is_end (Item.Passed behind) = false
is_end (Item.Tempo tempo behind) = false
is_end (Item.Channel status first second behind) = false

module _ (b : List ℕ) (edge end : ℕ) where
  -- where an event is an end of track, it ends in front of the edge
  abbrev Ends : Item → Type 0
  Ends x = is_end x ≡ true → end ≤ edge

  -- others are not meant
  not_end : (x : Item) → is_end x ≡ false → Ends x
  not_end x e f = absurd (true≢false (sym f ∙ e))

  -- a channel event is none
  channel-ends : (status at : ℕ) → Ends (spoken_at b edge status at)
  unfolding spoken_at short_at long_at
  channel-ends status at =
      either Ends (is_short status) _ _
      (λ e. either Ends (ltb edge (at + 1) || ltb 127 (u8_at b at)) _ _ (λ f. not_end Item.Bad refl) (λ f. not_end (Item.Channel status (u8_at b at) 0 (at + 1)) refl))
      (λ e. either Ends (ltb edge (at + 2) || ltb 127 (u8_at b at) || ltb 127 (u8_at b (at + 1))) _ _ (λ f. not_end Item.Bad refl) (λ f. not_end (Item.Channel status (u8_at b at) (u8_at b (at + 1)) (at + 2)) refl))

  -- nor is a system exclusive event
  exclusive-ends : (at : ℕ) → Ends (exclusive_at b edge at)
  unfolding exclusive_at
  exclusive-ends at = go (quantity_at b edge at)
    where
      go : (q : Option Quantity) → Ends (exclusive_by edge q)
      go None = not_end Item.Bad refl
      go (Some q) = either Ends (ltb edge (q.behind + q.value)) _ _ (λ f. not_end Item.Bad refl) (λ f. not_end (Item.Passed (q.behind + q.value)) refl)

  -- a meta event lies in front of the edge
  meta-ends : (at : ℕ) → ((n p : ℕ) → quantity_at b edge (at + 1) ≡ quantity n p → end ≡ p + n) → Ends (meta_at b edge at)
  unfolding meta_at
  meta-ends at ends = go (quantity_at b edge (at + 1)) refl
    where
      go : (q : Option Quantity) → quantity_at b edge (at + 1) ≡ q → Ends (meta_by b edge (u8_at b at) q)
      go None e = not_end Item.Bad refl
      go (Some q) e =
          either Ends (ltb 127 (u8_at b at) || ltb edge (q.behind + q.value)) _ _ (λ f. not_end Item.Bad refl)
          (λ f z. omega (arith, ends q.value q.behind e, ltb-false edge (q.behind + q.value) (neither (ltb 127 (u8_at b at)) (ltb edge (q.behind + q.value)) f).1))

  -- so does an event that is an end of track
  item-ends : (running at : ℕ) → ((n p : ℕ) → quantity_at b edge (at + 1 + 1) ≡ quantity n p → end ≡ p + n) → Ends (item_at b edge running at)
  unfolding item_at
  item-ends running at ends =
      let bad = not_end Item.Bad refl in
      let x = u8_at b at in
      either Ends (leb edge at) _ _ (λ e. bad)
      (λ e.
      either Ends (ltb x 128) _ _ (λ f. either Ends (is_channel running) _ _ (λ g. channel-ends running at) (λ g. bad))
      (λ f.
      either Ends (ltb x 240) _ _ (λ g. channel-ends x (at + 1))
      (λ g. either Ends (eqb x 255) _ _ (λ h. meta-ends (at + 1) ends) (λ h. either Ends (is_exclusive x) _ _ (λ i. exclusive-ends (at + 1)) (λ i. bad)))))

-- what is met, where it is no end
unended : (t : Bool) (place : ℕ) (m : Met) → (m ≡ Met.End → ⊥) → cond t (Met.Fault 11 place) m ≡ Met.End → ⊥
unended true place m h e = let z : ◌≡◌ {A = ℕ} 0 1 = cc in omega arith
unended false place m h e = h e

-- an event that ends the track is an end of track
obeyed-end : (x : Item) (c : Cursor) (sum place : ℕ) → obeyed x c sum place ≡ Met.End → is_end x ≡ true
unfolding obeyed acted
obeyed-end Item.Bad c sum place e = let z : ◌≡◌ {A = ℕ} 0 1 = cc in absurd (omega arith)
obeyed-end Item.End c sum place e = refl
obeyed-end (Item.Passed behind) c sum place e = absurd (unended (is_late c.division sum) place _ (λ f. let z : ◌≡◌ {A = ℕ} 0 1 = cc in omega arith) e)
obeyed-end (Item.Tempo tempo behind) c sum place e = absurd (unended (is_late c.division sum) place _ (λ f. let z : ◌≡◌ {A = ℕ} 0 1 = cc in omega arith) e)
obeyed-end (Item.Channel status first second behind) c sum place e = absurd (unended (is_late c.division sum) place _ (λ f. let z : ◌≡◌ {A = ℕ} 0 1 = cc in omega arith) e)

-- an end of track that is met lies in front of the edge
met-ends : (b : List ℕ) (c : Cursor) → meet_at b c ≡ Met.End → behind_met b c ≤ edge_of b c
met-ends b c e = go (quantity_at b (edge_of b c) c.at) refl
  where
    go : (q : Option Quantity) → quantity_at b (edge_of b c) c.at ≡ q → behind_met b c ≤ edge_of b c
    go None f = let w : Met.Fault 9 c.at ≡ Met.End = sym (meet-bad b c f) ∙ e in let z : ◌≡◌ {A = ℕ} 0 1 = cc in absurd (omega arith)
    go (Some q) f =
        let edge = edge_of b c in
        let x = item_at b edge c.running q.behind in
        let is = obeyed-end x c (sum_after c q.value) q.behind (sym (meet-good b c q.value q.behind f) ∙ e) in
        rw (behind-is b c q.value q.behind f) (item-ends b edge (behind_end b edge q.behind) c.running q.behind (end-behind b edge q.behind) is)

-- so does that of a song
song-ends : (n : ℕ) (b : List ℕ) (c : Cursor) → refuses (song_from n b c) ≡ false → end_from n b c ≤ edge_of b c
song-ends zero b c r = unfold song_from in absurd (true≢false r)
song-ends (suc n) b c r = go (λ f. song-ends n b f) (meet_at b c) refl
  where
    go : ((f : Cursor) → refuses (song_from n b f) ≡ false → end_from n b f ≤ edge_of b f) → (m : Met) → meet_at b c ≡ m → end_from (suc n) b c ≤ edge_of b c
    go more (Met.Fault number place) e = absurd (true≢false (subst (λ (x : Song). refuses x ≡ false) (song-is b c n (Met.Fault number place) e) r))
    go more Met.End e = rw (end_is n b c Met.End e) (met-ends b c e)
    go more (Met.Passed further) e =
        let edge = further-edge b c further (meet-passed b c further e) in
        let fine = subst (λ (x : Song). refuses x ≡ false) (song-is b c n (Met.Passed further) e) r in
        rw (end_is n b c (Met.Passed further) e) (omega (arith, more further fine))
    go more (Met.Given message further) e =
        let edge = further-edge b c further (meet-given b c message further e).0 in
        let fine = subst (λ (x : Song). refuses x ≡ false) (song-is b c n (Met.Given message further) e) r in
        rw (end_is n b c (Met.Given message further) e) (omega (arith, more further (sym (refuses-behind (event_of message further) (song_from n b further)) ∙ fine)))

-- the end of track lies in the track's chunk
pub ends-in-chunk : EndsInChunk
ends-in-chunk b es e =
    let o = has-track b es e in
    let c = start_at b o.at o.end in
    let song : song_from (turns b) b c ≡ Events es = sym (events-is b o.at o.end o.short o.head) ∙ e in
    let inside = song-ends (turns b) b c (ap refuses song) in
    rw (end-of-track-is b o.at o.end o.head, chunk-of-track-is b o.at o.end o.head) (omega (arith, inside))

-- ---- 10. A file of which this speaks

-- one note, 480 ticks, and the end of track; its chunk has room for four bytes more
abbrev front : List ℕ
front =
    77 ∷ 84 ∷ 104 ∷ 100 ∷ 0 ∷ 0 ∷ 0 ∷ 6 ∷ 0 ∷ 0 ∷ 0 ∷ 1 ∷ 1 ∷ 224 ∷ 77 ∷ 84 ∷ 114 ∷ 107 ∷ 0 ∷ 0 ∷ 0 ∷ 17 ∷
    0 ∷ 144 ∷ 60 ∷ 100 ∷ 131 ∷ 96 ∷ 60 ∷ 0 ∷ 0 ∷ 255 ∷ 47 ∷ 1 ∷ 9 ∷ []

-- its last bytes
abbrev quiet : List ℕ
quiet = 0 ∷ 0 ∷ 0 ∷ 0 ∷ []

-- others: a note behind the end of track, and bytes behind the track
abbrev loud : List ℕ
loud = 0 ∷ 144 ∷ 72 ∷ 127 ∷ 88 ∷ 0 ∷ 0 ∷ []

-- its events
abbrev rung : List Event
rung = record { frame = 0; status = 144; first = 60; second = 100 } ∷ record { frame = 22050; status = 144; first = 60; second = 0 } ∷ []

-- what the definitions say of it, computed
record Shown : Type 0 where
  events : events_of (front ++ quiet) ≡ Events rung
  end : end_of_track (front ++ quiet) ≡ 35
  chunk : chunk_of_track (front ++ quiet) ≡ 39

-- so it is
shown : Shown
unfolding events_of head_of track_from chunk_end four_at two_at three_at u8_at quantity_from quantity_at item_at meta_at meta_of spoken_at short_at long_at exclusive_at between acted obeyed meet_at song_from frame_of behind_end behind_met end_from end_of_track chunk_of_track
shown = record { events = refl; end = refl; chunk = refl }

-- and so those of the other
pub loud-is-quiet : events_of (front ++ loud) ≡ Events rung
loud-is-quiet =
    tail-changes-nothing front quiet loud rung shown.events (rw shown.end (omega arith)) (rw shown.chunk (omega arith)) (omega arith)
