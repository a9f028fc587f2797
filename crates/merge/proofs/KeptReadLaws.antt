-- A file of format 0 is merged as M-101 reads it: with the same events, or the same refusal.
use Rattle.smf.specs.declared.Quantity.{Quantity}
use Rattle.std.proofs.Common.{Option, Some, None}
use mathlib.Core.Bool.{Bool, true, false, cond, not, ◌||◌}
use mathlib.Core.List.{List, [], ◌∷◌, append-nil}
use mathlib.Core.Logic.{◌⊎◌, inl, inr, ⊎_elim}
use mathlib.Core.Path.{◌≡◌, refl, sym, ap, subst, ◌∙◌}
use Prim.Native.Nat.{ℕ, zero, suc, ◌+◌, ◌-◌, ◌<◌, ◌≤◌}
use native.Mathlib.Omega.{arith}
use borrow.Author.Tests.{le-ltb, eqb-true, not-false}
use lib.Dec.{ltb, eqb}
use lib.ListN.{length}
use Rattle.arith.specs.Bytes.{AllBytes}
use Rattle.smf.specs.declared.Cursor.{Cursor}
use Rattle.smf.specs.declared.Event.{Event}
use Rattle.smf.specs.declared.Header.{Header}
use Rattle.smf.specs.declared.Item.{Item}
use Rattle.smf.specs.declared.Item.TheVariants.{Bad, End, Passed, Tempo, Channel}
use Rattle.smf.specs.declared.Met.{Met}
use Rattle.smf.specs.Quantities.{two_at, four_at, quantity_at, quantity}
use Rattle.smf.specs.Head.{head_name, track_name, chunk_end, track_from, head_of}
use Rattle.smf.specs.Items.{item_at}
use Rattle.smf.specs.Ticks.{sum_after, is_late, frame_of}
use Rattle.smf.specs.Track.{Song, Events, Refused, edge_of, is_bad, carried, event_of, acted, obeyed, meet_at, behind_event, song_from}
use Rattle.smf.specs.Songs.{start_at, turns, events_of}
use Rattle.smf.proofs.ItemsLaws.{either, Placed, item-placed}
use Rattle.smf.proofs.MeetingLaws.{meet-bad, meet-good}
use Rattle.smf.proofs.QuantitiesLaws.{quantity-behind}
use Rattle.smf.proofs.SongsLaws.{events-is, has-track}
use Rattle.smf.proofs.TrackLaws.{song_by, song-is}
use Rattle.merge.specs.declared.Entry.{Entry}
use Rattle.merge.specs.declared.Front.{Front}
use Rattle.merge.specs.Fronts.{count_number, front_of}
use Rattle.merge.specs.Entries.{noted, settled_at, advanced_of, entries_from, flaw_from}
use Rattle.merge.specs.Lanes.{first_entry, flaw_of, lanes_from, flaw_in, entries_of}
use Rattle.merge.specs.Lateness.{tempo_after, sum_at, nearer, late_from, sounding, struck_from, struck_of}
use Rattle.merge.specs.Order.{in_order}
use Rattle.merge.specs.Merging.{Joined, sequence_of, joined_file, fitted, joined_of, merged_of}
use Rattle.merge.specs.Internal.Entries.{Seated, goes_on}
use Rattle.merge.specs.Kept.{NoneBefore, TicksRise, SameAsRead, MergedAsRead, RefusedAsRead}
use Rattle.merge.proofs.EntriesLaws.{settled-bad, settled-good, seated-at, onward, on-bad, on-end}
use Rattle.merge.proofs.LanesLaws.{track-held, lanes-cut, lanes-flawed, lanes_on}
use Rattle.merge.proofs.OrderLaws.{AtLeast, track-rises}
use Rattle.merge.proofs.KeptOrderLaws.{order-stays}
use Rattle.merge.proofs.KeptItemsLaws.{track-begins}
use Rattle.merge.proofs.KeptLaws.{joined_by, song-kept}
use Rattle.merge.proofs.MergingLaws.{merged-front, merged-song}
use Rattle.merge.proofs.KeptAgainLaws.{sum-on, late-empty, end-last, flaw-end}

-- ---- 1. Places rise in a track

-- each of some events lies at a place or behind it
abbrev AllFrom : ℕ → List Entry → Type 0
AllFrom place [] = Unit {0}
AllFrom place (e ∷ es) = (place ≤ e.place) × AllFrom place es

-- the next event of a track does not lie in front
advanced-place : (b : List ℕ) (e : Entry) → Seated b e → e.place ≤ (advanced_of b e).place
advanced-place b e s = go e.item refl
  where
    on : (i : Item) → e.item ≡ i → goes_on i ≡ true → e.place ≤ (advanced_of b e).place
    on i p g = let f = (onward b e s).further (ap goes_on p ∙ g) in omega (arith, f)

    go : (i : Item) → e.item ≡ i → e.place ≤ (advanced_of b e).place
    go Bad p = rw (on-bad b e p) (omega arith)
    go End p = rw (on-end b e p) (omega arith)
    go (Passed behind) p = on (Passed behind) p refl
    go (Tempo tempo behind) p = on (Tempo tempo behind) p refl
    go (Channel status first second behind) p = on (Channel status first second behind) p refl

-- nor does any behind it
places-from : (n : ℕ) (b : List ℕ) (e : Entry) (place : ℕ) → Seated b e → place ≤ e.place → AllFrom place (entries_from n b e)
unfolding entries_from
places-from zero b e place s h = tt
places-from (suc n) b e place s h =
    let p = advanced-place b e s in
    go (places-from n b (advanced_of b e) place (onward b e s).seated (omega (arith, p, h))) (is_bad e.item)
  where
    go : AllFrom place (entries_from n b (advanced_of b e)) → (t : Bool) → AllFrom place (cond t [] (e ∷ entries_from n b (advanced_of b e)))
    go more true = tt
    go more false = (h, more)

-- a place that is found lies at a place or behind it
abbrev SpotFrom : ℕ → Option ℕ → Type 0
SpotFrom place None = Unit {0}
SpotFrom place (Some other) = place ≤ other

-- so of those that are late the first is the nearest
nearest : (place : ℕ) (s : Option ℕ) → SpotFrom place s → nearer place s ≡ Some place
nearest place None h = refl
nearest place (Some other) h = ap Some (omega (arith, h))

-- the smaller of two places
spot-nearer : (place at : ℕ) (s : Option ℕ) → place ≤ at → SpotFrom place s → SpotFrom place (nearer at s)
spot-nearer place at None h k = h
spot-nearer place at (Some other) h k = omega (arith, h, k)

-- what is late lies where the events lie
late-from : (es : List Entry) (division tick tempo sum place : ℕ) → AllFrom place es → SpotFrom place (late_from division tick tempo sum es)
unfolding late_from
late-from [] division tick tempo sum place a = tt
late-from (e ∷ es) division tick tempo sum place a =
    let more = late-from es division e.tick (tempo_after tempo e.item) (sum_at tick tempo sum e) place a.1 in
    go more (is_late division (sum_at tick tempo sum e))
  where
    go : SpotFrom place (late_from division e.tick (tempo_after tempo e.item) (sum_at tick tempo sum e) es)
        → (t : Bool) → SpotFrom place (cond t (nearer e.place (late_from division e.tick (tempo_after tempo e.item) (sum_at tick tempo sum e) es)) (late_from division e.tick (tempo_after tempo e.item) (sum_at tick tempo sum e) es))
    go more true = spot-nearer place e.place (late_from division e.tick (tempo_after tempo e.item) (sum_at tick tempo sum e) es) a.0 more
    go more false = more

-- none is earlier than a tick, said in two ways
none-least : (t : ℕ) (es : List Entry) → AtLeast t es → NoneBefore t es
none-least t [] h = tt
none-least t (e ∷ es) h = (h.0, none-least t es h.1)

-- ticks never fall in a track
track-ordered : (n : ℕ) (b : List ℕ) (e : Entry) → TicksRise (entries_from n b e)
unfolding entries_from
track-ordered zero b e = tt
track-ordered (suc n) b e = go (track-ordered n b (advanced_of b e)) (is_bad e.item) (track-rises (suc n) b e e.tick (λ f. omega arith))
  where
    go : TicksRise (entries_from n b (advanced_of b e)) → (t : Bool) → AtLeast e.tick (cond t [] (e ∷ entries_from n b (advanced_of b e))) → TicksRise (cond t [] (e ∷ entries_from n b (advanced_of b e)))
    go more true a = tt
    go more false a = (none-least e.tick (entries_from n b (advanced_of b e)) a.1, more)

-- ---- 2. A song and the events of its track

-- what a song tells of the events of its track, from a tick, a tempo and a U on, and of the track's fault
abbrev Tells : ℕ → ℕ → ℕ → ℕ → Song → List Entry → Option ℕ → Type 0
Tells division tick tempo sum (Events es) xs flaw = (struck_from division tick tempo sum xs ≡ es) × (late_from division tick tempo sum xs ≡ None) × (flaw ≡ None)
Tells division tick tempo sum (Refused number place) xs flaw =
    ((number ≡ 9) × (late_from division tick tempo sum xs ≡ None) × (flaw ≡ Some place)) ⊎ ((number ≡ 11) × (late_from division tick tempo sum xs ≡ Some place))

module _ (division tick tempo sum u next : ℕ) (e : Entry) (xs : List Entry) (s : sum_at tick tempo sum e ≡ u) (t : tempo_after tempo e.item ≡ next) where
  -- an event that is not past an hour
  late-skip : is_late division u ≡ false → late_from division tick tempo sum (e ∷ xs) ≡ late_from division e.tick next u xs
  unfolding late_from
  late-skip l = rw (s, l, t) refl

  -- one that is
  late-here : is_late division u ≡ true → AllFrom e.place xs → late_from division tick tempo sum (e ∷ xs) ≡ Some e.place
  unfolding late_from
  late-here l a = rw (s, l, t) (nearest e.place (late_from division e.tick next u xs) (late-from xs division e.tick next u e.place a))

  -- its sound
  struck-on : struck_from division tick tempo sum (e ∷ xs) ≡ sounding (frame_of division u) e.item (struck_from division e.tick next u xs)
  unfolding struck_from
  struck-on = rw (s, t) refl

  -- an event that is not heard
  tells-quiet : (song : Song) (flaw : Option ℕ) → is_late division u ≡ false → ((frame : ℕ) (es : List Event) → sounding frame e.item es ≡ es)
      → Tells division e.tick next u song xs flaw → Tells division tick tempo sum song (e ∷ xs) flaw
  tells-quiet (Events es) flaw l q h = (struck-on ∙ q (frame_of division u) (struck_from division e.tick next u xs) ∙ h.0, late-skip l ∙ h.1, h.2)
  tells-quiet (Refused number place) flaw l q h = ⊎_elim (λ x. inl (x.0, late-skip l ∙ x.1, x.2)) (λ x. inr (x.0, late-skip l ∙ x.1)) h

  -- one that is
  tells-heard : (song : Song) (flaw : Option ℕ) (event : Event) → is_late division u ≡ false → ((es : List Event) → sounding (frame_of division u) e.item es ≡ event ∷ es)
      → Tells division e.tick next u song xs flaw → Tells division tick tempo sum (behind_event event song) (e ∷ xs) flaw
  tells-heard (Events es) flaw event l q h =
      (struck-on ∙ q (struck_from division e.tick next u xs) ∙ ap (λ (ys : List Event). event ∷ ys) h.0, late-skip l ∙ h.1, h.2)
  tells-heard (Refused number place) flaw event l q h = ⊎_elim (λ x. inl (x.0, late-skip l ∙ x.1, x.2)) (λ x. inr (x.0, late-skip l ∙ x.1)) h

-- the same of the same
tells-by : (division tick tempo sum : ℕ) (song song' : Song) (xs xs' : List Entry) (flaw flaw' : Option ℕ) → song ≡ song' → xs ≡ xs' → flaw ≡ flaw'
    → Tells division tick tempo sum song' xs' flaw' → Tells division tick tempo sum song xs flaw
tells-by division tick tempo sum song song' xs xs' flaw flaw' p q r h = rw (p, q, r) h

-- a fault
tells-fault : (n : ℕ) (b : List ℕ) (division tick tempo sum now place end : ℕ)
    → Tells division tick tempo sum (Refused 9 place) (entries_from (suc n) b (noted Bad now place end)) (flaw_from (suc n) b (noted Bad now place end))
unfolding entries_from flaw_from late_from
tells-fault n b division tick tempo sum now place end = inl (refl, refl, refl)

module _ (n : ℕ) (b : List ℕ) (tick place end : ℕ) where
  -- the events of a track from its end on, and its fault
  from_end : (entries_from (suc n) b (noted End tick place end) ≡ noted End tick place end ∷ []) × (flaw_from (suc n) b (noted End tick place end) ≡ None)
  unfolding entries_from
  from_end = (ap (λ (xs : List Entry). noted End tick place end ∷ xs) (end-last n b tick place end), flaw-end n b tick place end)

  -- .. from an event on that is stepped over
  from-passed : (behind : ℕ)
      → (entries_from (suc n) b (noted (Passed behind) tick place end) ≡ noted (Passed behind) tick place end ∷ entries_from n b (settled_at b end 0 behind tick))
      × (flaw_from (suc n) b (noted (Passed behind) tick place end) ≡ flaw_from n b (settled_at b end 0 behind tick))
  unfolding entries_from flaw_from advanced_of
  from-passed behind = (refl, refl)

  -- .. from a tempo change on
  from-tempo : (tempo behind : ℕ)
      → (entries_from (suc n) b (noted (Tempo tempo behind) tick place end) ≡ noted (Tempo tempo behind) tick place end ∷ entries_from n b (settled_at b end 0 behind tick))
      × (flaw_from (suc n) b (noted (Tempo tempo behind) tick place end) ≡ flaw_from n b (settled_at b end 0 behind tick))
  unfolding entries_from flaw_from advanced_of
  from-tempo tempo behind = (refl, refl)

  -- .. from a channel event on
  from-channel : (status first second behind : ℕ)
      → (entries_from (suc n) b (noted (Channel status first second behind) tick place end) ≡ noted (Channel status first second behind) tick place end ∷ entries_from n b (settled_at b end status behind tick))
      × (flaw_from (suc n) b (noted (Channel status first second behind) tick place end) ≡ flaw_from n b (settled_at b end status behind tick))
  unfolding entries_from flaw_from advanced_of
  from-channel status first second behind = (refl, refl)

-- an event that is no fault stands in front of others, which lie behind it
from-good : (n : ℕ) (b : List ℕ) (e : Entry) → Seated b e → is_bad e.item ≡ false → (entries_from (suc n) b e ≡ e ∷ entries_from n b (advanced_of b e)) × AllFrom e.place (entries_from n b (advanced_of b e))
unfolding entries_from
from-good n b e s g = (rw g refl, places-from n b (advanced_of b e) e.place (onward b e s).seated (advanced-place b e s))

-- ---- 3. The song of a track

-- what is asked for behind an event
abbrev TellsFrom : ℕ → List ℕ → Type 0
TellsFrom n b =
    (c : Cursor) (tick : ℕ) → c.end ≤ length b → c.at ≤ c.end → c.end < c.at + n
    → Tells c.division tick c.tempo c.sum (song_from n b c) (entries_from n b (settled_at b c.end c.running c.at tick)) (flaw_from n b (settled_at b c.end c.running c.at tick))

module _ (n : ℕ) (b : List ℕ) (c : Cursor) (tick : ℕ) (held : c.end ≤ length b) where
  -- the track lies in the file
  edge : edge_of b c ≡ c.end
  edge = omega (arith, held)

  -- the first event
  abbrev first : Entry
  first = settled_at b c.end c.running c.at tick

  -- what the song tells from here on
  abbrev Told : Type 0
  Told = Tells c.division tick c.tempo c.sum (song_from (suc n) b c) (entries_from (suc n) b first) (flaw_from (suc n) b first)

  -- a delta time that is not well formed
  tells_none : quantity_at b c.end c.at ≡ None → Told
  tells_none q =
      let m = meet-bad b c (subst (λ (x : ℕ). quantity_at b x c.at ≡ None) (sym edge) q) in
      let same = settled-bad b c.end c.running c.at tick q in
      tells-by c.division tick c.tempo c.sum _ _ _ _ _ _ (song-is b c n (Met.Fault 9 c.at) m) (ap (entries_from (suc n) b) same) (ap (flaw_from (suc n) b) same)
      (tells-fault n b c.division tick c.tempo c.sum tick c.at c.end)

  module _ (ticks place : ℕ) (q : quantity_at b c.end c.at ≡ quantity ticks place) where
    -- U there
    abbrev sum : ℕ
    sum = sum_after c ticks

    -- what is met
    met-is : (i : Item) → item_at b c.end c.running place ≡ i → meet_at b c ≡ obeyed i c sum place
    met-is i p =
        meet-good b c ticks place (subst (λ (x : ℕ). quantity_at b x c.at ≡ quantity ticks place) (sym edge) q)
        ∙ ap (λ (x : ℕ). obeyed (item_at b x c.running place) c sum place) edge
        ∙ ap (λ (x : Item). obeyed x c sum place) p

    -- the entry
    first-is : (i : Item) → item_at b c.end c.running place ≡ i → first ≡ noted i (tick + ticks) place c.end
    first-is i p = settled-good b c.end c.running c.at tick ticks place q ∙ ap (λ (x : Item). noted x (tick + ticks) place c.end) p

    -- a fault
    tells-bad : item_at b c.end c.running place ≡ Bad → Told
    unfolding obeyed
    tells-bad p =
        let same = first-is Bad p in
        tells-by c.division tick c.tempo c.sum _ _ _ _ _ _ (song-is b c n (Met.Fault 9 place) (met-is Bad p)) (ap (entries_from (suc n) b) same) (ap (flaw_from (suc n) b) same)
        (tells-fault n b c.division tick c.tempo c.sum (tick + ticks) place c.end)

    -- an event past an hour
    tells-late : (i : Item) → item_at b c.end c.running place ≡ i → is_bad i ≡ false → is_late c.division sum ≡ true → Told
    unfolding obeyed
    tells-late i p g l =
        let same = first-is i p in
        let e = noted i (tick + ticks) place c.end in
        let s = subst (λ (x : Entry). Seated b x) same (seated-at b c.end c.running c.at tick held).0 in
        let f = from-good n b e s g in
        let t : e.tick ≡ tick + ticks = rw g refl in
        let u = sum-on tick ticks c.tempo c.sum e t in
        let late = late-here c.division tick c.tempo c.sum sum (tempo_after c.tempo i) e (entries_from n b (advanced_of b e)) u refl l f.1 in
        tells-by c.division tick c.tempo c.sum _ (Refused 11 place) _ (e ∷ entries_from n b (advanced_of b e)) _ (flaw_from (suc n) b e)
        (song-is b c n (Met.Fault 11 place) (met-is i p ∙ rw (g, l) refl)) (ap (entries_from (suc n) b) same ∙ f.0) (ap (flaw_from (suc n) b) same) (inr (refl, late))

    -- an event that is not
    acts : (i : Item) → item_at b c.end c.running place ≡ i → is_bad i ≡ false → is_late c.division sum ≡ false → song_from (suc n) b c ≡ song_by n b (acted i c sum place)
    unfolding obeyed
    acts i p g l = song-is b c n (acted i c sum place) (met-is i p ∙ rw (g, l) refl)

    -- it is the end of track
    tells-end : item_at b c.end c.running place ≡ End → is_late c.division sum ≡ false → Told
    unfolding acted struck_from late_from
    tells-end p l =
        let same = first-is End p in
        let e = noted End (tick + ticks) place c.end in
        let f = from_end n b (tick + ticks) place c.end in
        let u = sum-on tick ticks c.tempo c.sum e refl in
        tells-by c.division tick c.tempo c.sum _ (Events []) _ (e ∷ []) _ None (acts End p refl l) (ap (entries_from (suc n) b) same ∙ f.0) (ap (flaw_from (suc n) b) same ∙ f.1)
        (tells-quiet c.division tick c.tempo c.sum sum c.tempo e [] u refl (Events []) None l (λ frame es. refl) (refl, refl, refl))

    -- it is stepped over
    tells-passed : (behind : ℕ) → item_at b c.end c.running place ≡ Passed behind → is_late c.division sum ≡ false → behind ≤ c.end → c.end < behind + n → TellsFrom n b → Told
    unfolding acted
    tells-passed behind p l h k more =
        let same = first-is (Passed behind) p in
        let e = noted (Passed behind) (tick + ticks) place c.end in
        let f = from-passed n b (tick + ticks) place c.end behind in
        let u = sum-on tick ticks c.tempo c.sum e refl in
        let further = carried c sum behind 0 c.tempo in
        tells-by c.division tick c.tempo c.sum _ (song_from n b further) _ (e ∷ entries_from n b (settled_at b c.end 0 behind (tick + ticks))) _ (flaw_from n b (settled_at b c.end 0 behind (tick + ticks)))
        (acts (Passed behind) p refl l) (ap (entries_from (suc n) b) same ∙ f.0) (ap (flaw_from (suc n) b) same ∙ f.1)
        (tells-quiet c.division tick c.tempo c.sum sum c.tempo e _ u refl (song_from n b further) _ l (λ frame es. refl) (more further (tick + ticks) held h k))

    -- it is a tempo change
    tells-tempo : (tempo behind : ℕ) → item_at b c.end c.running place ≡ Tempo tempo behind → is_late c.division sum ≡ false → behind ≤ c.end → c.end < behind + n → TellsFrom n b → Told
    unfolding acted
    tells-tempo tempo behind p l h k more =
        let same = first-is (Tempo tempo behind) p in
        let e = noted (Tempo tempo behind) (tick + ticks) place c.end in
        let f = from-tempo n b (tick + ticks) place c.end tempo behind in
        let u = sum-on tick ticks c.tempo c.sum e refl in
        let further = carried c sum behind 0 tempo in
        tells-by c.division tick c.tempo c.sum _ (song_from n b further) _ (e ∷ entries_from n b (settled_at b c.end 0 behind (tick + ticks))) _ (flaw_from n b (settled_at b c.end 0 behind (tick + ticks)))
        (acts (Tempo tempo behind) p refl l) (ap (entries_from (suc n) b) same ∙ f.0) (ap (flaw_from (suc n) b) same ∙ f.1)
        (tells-quiet c.division tick c.tempo c.sum sum tempo e _ u refl (song_from n b further) _ l (λ frame es. refl) (more further (tick + ticks) held h k))

    -- it is a channel event
    tells-channel : (status first' second behind : ℕ) → item_at b c.end c.running place ≡ Channel status first' second behind → is_late c.division sum ≡ false → behind ≤ c.end → c.end < behind + n
        → TellsFrom n b → Told
    unfolding acted
    tells-channel status first' second behind p l h k more =
        let same = first-is (Channel status first' second behind) p in
        let e = noted (Channel status first' second behind) (tick + ticks) place c.end in
        let f = from-channel n b (tick + ticks) place c.end status first' second behind in
        let u = sum-on tick ticks c.tempo c.sum e refl in
        let further = carried c sum behind status c.tempo in
        let event = event_of (record { status = status; first = first'; second = second }) further in
        tells-by c.division tick c.tempo c.sum _ (behind_event event (song_from n b further)) _ (e ∷ entries_from n b (settled_at b c.end status behind (tick + ticks))) _ (flaw_from n b (settled_at b c.end status behind (tick + ticks)))
        (acts (Channel status first' second behind) p refl l) (ap (entries_from (suc n) b) same ∙ f.0) (ap (flaw_from (suc n) b) same ∙ f.1)
        (tells-heard c.division tick c.tempo c.sum sum c.tempo e _ u refl (song_from n b further) _ event l (λ es. refl) (more further (tick + ticks) held h k))

    -- whatever it is
    tells-item : c.at < place → c.end < c.at + suc n → TellsFrom n b → Told
    tells-item after enough more = go (item_at b c.end c.running place) refl (is_late c.division sum) refl
      where
        placed : (i : Item) → item_at b c.end c.running place ≡ i → Placed c.end place i
        placed i p = subst (λ (x : Item). Placed c.end place x) p (item-placed b c.end c.running place)

        go : (i : Item) → item_at b c.end c.running place ≡ i → (l : Bool) → is_late c.division sum ≡ l → Told
        go Bad p l f = tells-bad p
        go End p true f = tells-late End p refl f
        go End p false f = tells-end p f
        go (Passed behind) p true f = tells-late (Passed behind) p refl f
        go (Passed behind) p false f = let h = placed (Passed behind) p in tells-passed behind p f h.1 (omega (arith, h, after, enough)) more
        go (Tempo tempo behind) p true f = tells-late (Tempo tempo behind) p refl f
        go (Tempo tempo behind) p false f = let h = placed (Tempo tempo behind) p in tells-tempo tempo behind p f h.1 (omega (arith, h, after, enough)) more
        go (Channel status first' second behind) p true f = tells-late (Channel status first' second behind) p refl f
        go (Channel status first' second behind) p false f =
            let h = placed (Channel status first' second behind) p in
            tells-channel status first' second behind p f h.before (omega (arith, h.after, after, enough)) more

-- so it is of any number of turns that is enough
song-tells : (n : ℕ) (b : List ℕ) → TellsFrom n b
song-tells zero b c tick held in' enough = absurd (omega (arith, in', enough))
song-tells (suc n) b c tick held in' enough = go (song-tells n b) (quantity_at b c.end c.at) refl
  where
    go : TellsFrom n b → (q : Option Quantity) → quantity_at b c.end c.at ≡ q → Told n b c tick held
    go more None q = tells_none n b c tick held q
    go more (Some y) q = tells-item n b c tick held y.value y.behind q (quantity-behind b c.end c.at y.value y.behind q).0 enough more

-- ---- 4. The head

-- what M-101 makes of a head that is good or refused
abbrev head_by : List ℕ → Front → Header
head_by b (Front.Refused number place) = Header.Refused number place
head_by b (Front.Song count division at) = track_from (length b) b at

-- in format 0 the head is M-101's
front-head : (b : List ℕ) → two_at b 8 ≡ 0 → head_of b ≡ head_by b (front_of b)
unfolding head_of front_of count_number
front-head b z =
    rw z (go (eqb (four_at b 0) head_name) (ltb (four_at b 4) 6 || ltb (length b) (chunk_end b 0)) (eqb (two_at b 10) 1) (eqb (two_at b 12) 0) (ltb 32767 (two_at b 12)))
  where
    go : (s t u v x : Bool)
        → cond (not s) (Header.Refused 9 0)
        (cond t (Header.Refused 9 4)
        (cond (not u) (Header.Refused 9 10)
        (cond v (Header.Refused 9 12)
        (cond x (Header.Refused 10 12)
        (track_from (length b) b (chunk_end b 0))))))
        ≡ head_by b
        (cond (not s) (Front.Refused 9 0)
        (cond t (Front.Refused 9 4)
        (cond (not (eqb (cond u 0 9) 0)) (Front.Refused (cond u 0 9) 10)
        (cond v (Front.Refused 9 12)
        (cond x (Front.Refused 10 12)
        (Front.Song (two_at b 10) (two_at b 12) (chunk_end b 0)))))))
    go false t u v x = refl
    go true true u v x = refl
    go true false false v x = refl
    go true false true true x = refl
    go true false true false true = refl
    go true false true false false = refl

-- a good number of tracks in format 0 is 1
count-one : (n : ℕ) → count_number 0 n ≡ 0 → n ≡ 1
unfolding count_number
count-one n e = test (eqb n 1) refl e
  where
    test : (t : Bool) → eqb n 1 ≡ t → ◌≡◌ {A = ℕ} (cond t 0 9) 0 → n ≡ 1
    test true t f = eqb-true n 1 t
    test false t f = absurd (omega (arith, f))

-- one track, and the division that M-101 reads
abbrev OneTrack : List ℕ → Front → Type 0
OneTrack b (Front.Refused number place) = Unit {0}
OneTrack b (Front.Song count division at) = (count ≡ 1) × (division ≡ two_at b 12)

-- a good head of format 0 says so
front-one : (b : List ℕ) → two_at b 8 ≡ 0 → OneTrack b (front_of b)
unfolding front_of
front-one b z =
    let P = OneTrack b in
    either P (not (eqb (four_at b 0) head_name)) _ _ (λ e. tt)
    (λ e. either P (ltb (four_at b 4) 6 || ltb (length b) (chunk_end b 0)) _ _ (λ f. tt)
    (λ f. either P (ltb 1 (two_at b 8)) _ _ (λ g. tt)
    (λ g. either P (not (eqb (count_number (two_at b 8) (two_at b 10)) 0)) _ _ (λ h. tt)
    (λ h. either P (eqb (two_at b 12) 0) _ _ (λ k. tt)
    (λ k. either P (ltb 32767 (two_at b 12)) _ _ (λ l. tt)
    (λ l. (count-one (two_at b 10) (ap (λ (n : ℕ). count_number n (two_at b 10)) (sym z) ∙ eqb-true _ _ (not-false (eqb (count_number (two_at b 8) (two_at b 10)) 0) h)), refl)))))))

-- ---- 5. One track

-- a chunk that is not found is refused by 9
track-nine : (n : ℕ) (b : List ℕ) (at number place : ℕ) → track_from n b at ≡ Header.Refused number place → number ≡ 9
unfolding track_from
track-nine zero b at number place e = cc
track-nine (suc n) b at number place e =
    go (track-nine n b (chunk_end b at) number place) (ltb (length b) (at + 4)) (ltb (length b) (chunk_end b at)) (eqb (four_at b at) track_name) e
  where
    go : (track_from n b (chunk_end b at) ≡ Header.Refused number place → number ≡ 9) → (s t u : Bool)
        → cond s (Header.Refused 9 at) (cond t (Header.Refused 9 (at + 4)) (cond u (Header.Track (at + 8) (chunk_end b at)) (track_from n b (chunk_end b at)))) ≡ Header.Refused number place → number ≡ 9
    go more true t u e = cc
    go more false true u e = cc
    go more false false true e = let z : ◌≡◌ {A = ℕ} 0 1 = cc in absurd (omega arith)
    go more false false false e = more e

module _ (b : List ℕ) (at begin end : ℕ) (e : track_from (length b) b at ≡ Header.Track begin end) where
  -- the sequence of one track is the track's, and its fault the track's
  one-track : (sequence_of 1 b at ≡ entries_from (turns b) b (first_entry b begin end)) × (flaw_in 1 b at ≡ flaw_of b (first_entry b begin end))
  unfolding entries_of lanes_from flaw_in
  one-track = go (flaw_of b (first_entry b begin end)) refl
    where
      by : lanes_from 1 b at ≡ first_entry b begin end ∷ [] → sequence_of 1 b at ≡ entries_from (turns b) b (first_entry b begin end)
      by l =
          ap (λ (xs : List Entry). in_order (entries_of b xs)) l
          ∙ ap in_order (append-nil (entries_from (turns b) b (first_entry b begin end)))
          ∙ order-stays (entries_from (turns b) b (first_entry b begin end)) (track-ordered (turns b) b (first_entry b begin end))

      go : (s : Option ℕ) → flaw_of b (first_entry b begin end) ≡ s → (sequence_of 1 b at ≡ entries_from (turns b) b (first_entry b begin end)) × (flaw_in 1 b at ≡ flaw_of b (first_entry b begin end))
      go None f = let l = lanes_on b 0 at begin end e f in (by l.0, l.1 ∙ sym f)
      go (Some place) f = let l = lanes-flawed b 0 at begin end place e f in (by l.0, l.1 ∙ sym f)

  -- what its song tells
  one-tells : (song : Song) → song_from (turns b) b (start_at b begin end) ≡ song → Tells (two_at b 12) 0 500000 0 song (sequence_of 1 b at) (flaw_in 1 b at)
  one-tells song s =
      let o = one-track in
      let begins = track-begins (length b) b at begin end e in
      let held = track-held (length b) b at begin end e in
      tells-by (two_at b 12) 0 500000 0 song _ _ _ _ _ (sym s) o.0 o.1 (song-tells (turns b) b (start_at b begin end) 0 held begins.1 (omega (arith, held, begins)))

-- ---- 6. What is promised

-- the events of a file of format 0 are those that M-101 gives
pub same-as-read : SameAsRead
same-as-read b es count division at z e f =
    let t = has-track b es e in
    let one = subst (λ (x : Front). OneTrack b x) f (front-one b z) in
    let track : track_from (length b) b at ≡ Header.Track t.at t.end = sym (front-head b z ∙ ap (head_by b) f) ∙ t.head in
    let song = sym (events-is b t.at t.end t.short t.head) ∙ e in
    let told = one-tells b at t.at t.end track (Events es) song in
    rw (one.0, one.1) told.0

-- a head that is refused refuses the file
events-refused : (b : List ℕ) (number place : ℕ) → length b ≤ 65536 → head_of b ≡ Header.Refused number place → events_of b ≡ Refused number place
unfolding events_of
events-refused b number place h e = rw (le-ltb _ _ h) (rw (e, events_of) refl)

-- the same refusal
same-refusal : (n p number place : ℕ) → Refused n p ≡ Refused number place → (n ≡ number) × (p ≡ place)
same-refusal n p number place e = (cc, cc)

module _ (b : List ℕ) (room : ℕ) (short : length b ≤ 65536) (z : two_at b 8 ≡ 0) (count division at : ℕ) (f : front_of b ≡ Front.Song count division at) where
  -- it has one track
  has_one : OneTrack b (Front.Song count division at)
  has_one = subst (λ (x : Front). OneTrack b x) f (front-one b z)

  -- and is merged by it
  joined_is : merged_of b room ≡ joined_of b 1 (two_at b 12) at room
  joined_is = merged-song b room count division at (omega (arith, short)) f ∙ rw (has_one.0, has_one.1) refl

module _ (b : List ℕ) (number place room : ℕ) (short : length b ≤ 65536) (z : two_at b 8 ≡ 0) (e : events_of b ≡ Refused number place) where
  -- by the head
  refused-head : (n p : ℕ) → front_of b ≡ Front.Refused n p → merged_of b room ≡ Joined.Declined number place
  refused-head n p f =
      let s = same-refusal n p number place (sym (events-refused b n p short (front-head b z ∙ ap (head_by b) f)) ∙ e) in
      merged-front b room n p (omega (arith, short)) f ∙ rw (s.0, s.1) refl

  module _ (count division at : ℕ) (f : front_of b ≡ Front.Song count division at) where
    -- where no track is found
    refused-cut : (n p : ℕ) → track_from (length b) b at ≡ Header.Refused n p → merged_of b room ≡ Joined.Declined number place
    unfolding joined_of entries_of in_order
    refused-cut n p t =
        let s = same-refusal n p number place (sym (events-refused b n p short (front-head b z ∙ ap (head_by b) f ∙ t)) ∙ e) in
        let nine = track-nine (length b) b at n p t in
        let l = lanes-cut b 0 at n p t in
        let late = late-empty (two_at b 12) 0 500000 0 in
        let is : 9 ≡ number = sym nine ∙ s.0 in
        joined_is b room short z count division at f ∙ rw (l.0, l.1, late, s.1, is) refl

    -- by the track
    refused-track : (begin end : ℕ) → track_from (length b) b at ≡ Header.Track begin end → merged_of b room ≡ Joined.Declined number place
    unfolding joined_of
    refused-track begin end t =
        let song = sym (events-is b begin end short (front-head b z ∙ ap (head_by b) f ∙ t)) ∙ e in
        let told = one-tells b at begin end t (Refused number place) song in
        let j = joined_is b room short z count division at f in
        ⊎_elim (λ x. j ∙ rw (x.0, x.1, x.2) refl) (λ x. j ∙ rw (x.0, x.1) refl) told

    -- by either
    refused-song : (h : Header) → track_from (length b) b at ≡ h → merged_of b room ≡ Joined.Declined number place
    refused-song (Header.Refused n p) t = refused-cut n p t
    refused-song (Header.Track begin end) t = refused-track begin end t

  -- by the head or what is behind it
  refused-by : (x : Front) → front_of b ≡ x → merged_of b room ≡ Joined.Declined number place
  refused-by (Front.Refused n p) f = refused-head n p f
  refused-by (Front.Song count division at) f = refused-song count division at f (track_from (length b) b at) refl

-- what M-101 refuses is refused in the same way
pub refused-as-read : RefusedAsRead
refused-as-read b number place room short z e = refused-by b number place room short z e (front_of b) refl

module _ (b : List ℕ) (es : List Event) (room : ℕ) (a : AllBytes b) (z : two_at b 8 ≡ 0) (e : events_of b ≡ Events es) where
  -- for want of room, or else with its events
  abbrev Merges : Type 0
  Merges = (merged_of b room ≡ Joined.Declined 43 0) ⊎ ((w : List ℕ) × (merged_of b room ≡ Joined.Issued w) × (length w ≤ 65536 → events_of w ≡ Events es))

  -- by its room
  merges-fitted : (at : ℕ) → front_of b ≡ Front.Song 1 (two_at b 12) at → struck_of (two_at b 12) (sequence_of 1 b at) ≡ es → (bytes : List ℕ) → merged_of b room ≡ fitted room bytes → Merges
  unfolding fitted
  merges-fitted at f k bytes m = go (ltb room (length bytes)) m
    where
      go : (t : Bool) → merged_of b room ≡ cond t (Joined.Declined 43 0) (Joined.Issued bytes) → Merges
      go true m = inl m
      go false m = inr (bytes, m, λ h. song-kept b bytes 1 (two_at b 12) at a f (joined_by b bytes room 1 (two_at b 12) at f m) h ∙ ap Events k)

  -- its track is in time, and has no fault
  merges-song : (count division at : ℕ) → front_of b ≡ Front.Song count division at → Merges
  unfolding joined_of
  merges-song count division at f =
      let t = has-track b es e in
      let one = has_one b room t.short z count division at f in
      let track : track_from (length b) b at ≡ Header.Track t.at t.end = sym (front-head b z ∙ ap (head_by b) f) ∙ t.head in
      let song = sym (events-is b t.at t.end t.short t.head) ∙ e in
      let told = one-tells b at t.at t.end track (Events es) song in
      merges-fitted at (f ∙ rw (one.0, one.1) refl) told.0 (joined_file (two_at b 12) (sequence_of 1 b at))
      (joined_is b room t.short z count division at f ∙ rw (told.1, told.2) refl)

  -- its head is good
  merges-by : (x : Front) → front_of b ≡ x → Merges
  merges-by (Front.Refused number place) f =
      let t = has-track b es e in
      let never : Header.Refused number place ≡ Header.Track t.at t.end = sym (front-head b z ∙ ap (head_by b) f) ∙ t.head in
      let y : ◌≡◌ {A = ℕ} 0 1 = cc in
      absurd (omega arith)
  merges-by (Front.Song count division at) f = merges-song count division at f

-- what M-101 reads is merged, where there is room
pub merged-as-read : MergedAsRead
merged-as-read b es room a z e = merges-by b es room a z e (front_of b) refl
