-- What the reader hands out is the song of the file, in its ranges, at frames that never fall.
use Rattle.std.proofs.Common.{Option, Some, None}
use mathlib.Core.List.{List, [], ◌∷◌}
use mathlib.Core.Path.{◌≡◌, refl, subst, sym, ◌∙◌, ap}
use Prim.Native.Nat.{ℕ, zero, suc, ◌+◌, ◌<◌, ◌≤◌}
use native.Mathlib.Nat.{min-le_left, le_trans}
use native.Mathlib.Omega.{arith}
use lib.ListN.{length}
use Rattle.smf.specs.declared.Cursor.{Cursor}
use Rattle.smf.specs.declared.Event.{Event}
use Rattle.smf.specs.declared.Handed.{Handed}
use Rattle.smf.specs.declared.Header.{Header}
use Rattle.smf.specs.declared.Met.{Met}
use Rattle.smf.specs.declared.Met.TheVariants.{Fault, End, Passed, Given}
use Rattle.smf.specs.Head.{head_of}
use Rattle.smf.specs.Ticks.{frame_of}
use Rattle.smf.specs.Track.{Song, Events, Refused, edge_of, event_of, meet_at, behind_event, song_from, next_from, over, nothing}
use Rattle.smf.specs.Songs.{turns, events_of, track_cursor, first_cursor, opening_of, handed_of}
use Rattle.smf.specs.Reading.{cursor_after, offered, event_at, entry, ReadsAll, NeverFall, InRange, AllInRange}
use Rattle.smf.proofs.TicksLaws.{frame-rises, frame-in}
use Rattle.smf.proofs.SongsLaws.{events-is, has-track}
use Rattle.smf.proofs.TrackLaws.{meet-passed, meet-given, further-edge, edge_in, song-enough, next_edge}

-- ---- one next

-- an offer of an event, with the cursor behind it
abbrev gives : Event → Cursor → Handed
gives e c = record { event = Some e; cursor = c }

-- what a next hands out of a song
abbrev pub Hands : List ℕ → Handed → Song → Type 0
Hands b h (Refused number place) = Unit {0}
Hands b h (Events []) = h ≡ nothing
Hands b h (Events (e ∷ es)) = (h.event ≡ Some e) × (song_from (turns b) b h.cursor ≡ Events es)

-- a next and the song of as many turns
hands : (n : ℕ) (b : List ℕ) (c : Cursor) → edge_of b c < c.at + n → Hands b (next_from n b c) (song_from n b c)
unfolding song_from next_from
hands zero b c h = tt
hands (suc n) b c h = go (λ further. hands n b further) (meet_at b c) refl
  where
    given : (event : Event) (further : Cursor) (s : Song) → song_from (turns b) b further ≡ s → Hands b (gives event further) (behind_event event s)
    given event further (Refused number place) e = tt
    given event further (Events es) e = (refl, e)

    go : ((further : Cursor) → edge_of b further < further.at + n → Hands b (next_from n b further) (song_from n b further)) → (m : Met) → meet_at b c ≡ m → Hands b (elim m [ Fault number place ↦ nothing | End ↦ nothing | Passed further ↦ next_from n b further | Given message further ↦ gives (event_of message further) further ]) (elim m [ Fault number place ↦ Refused number place | End ↦ Events [] | Passed further ↦ song_from n b further | Given message further ↦ behind_event (event_of message further) (song_from n b further) ])
    go more (Fault number place) e = tt
    go more End e = refl
    go more (Passed further) e =
        let f = meet-passed b c further e in
        let edge = further-edge b c further f in
        more further (omega arith)
    go more (Given message further) e =
        let f = (meet-given b c message further e).0 in
        let edge = further-edge b c further f in
        let room = edge_in b further in
        given (event_of message further) further (song_from n b further) (song-enough (turns b) n b further (omega arith) (omega arith))

-- a next and the song
pub hands_next : (b : List ℕ) (c : Cursor) → Hands b (handed_of b c) (song_from (turns b) b c)
unfolding handed_of
hands_next b c = hands (turns b) b c (omega (arith, edge_in b c))

-- ---- many nexts

-- the cursor after k nexts from a cursor on
after : List ℕ → Cursor → ℕ → Cursor
after b c zero = c
after b c (suc k) = (handed_of b (after b c k)).cursor

-- the first next may be taken off
after_next : (b : List ℕ) (c : Cursor) (k : ℕ) → after b c (suc k) ≡ after b (handed_of b c).cursor k
unfolding after
after_next b c zero = refl
after_next b c (suc k) = ap (λ (x : Cursor). (handed_of b x).cursor) (after_next b c k)

-- where no event is left none comes
pub over-next : (b : List ℕ) → handed_of b over ≡ nothing
unfolding handed_of
over-next b = next_edge b over (min-le_left 0 (length b))

-- and the cursor stays there
over-after : (b : List ℕ) (k : ℕ) → after b over k ≡ over
unfolding after
over-after b zero = refl
over-after b (suc k) = ap (λ (x : Cursor). (handed_of b x).cursor) (over-after b k) ∙ ap (λ (h : Handed). h.cursor) (over-next b)

-- so no event is offered
over-offers : (b : List ℕ) (k : ℕ) → (handed_of b (after b over k)).event ≡ None
over-offers b k = ap (λ (x : Cursor). (handed_of b x).event) (over-after b k) ∙ ap (λ (h : Handed). h.event) (over-next b)

-- the nexts from a cursor on hand out its song
reads : (b : List ℕ) (es : List Event) (c : Cursor) (k : ℕ) → song_from (turns b) b c ≡ Events es → (handed_of b (after b c k)).event ≡ event_at es k
unfolding after
reads b [] c zero e = let h : handed_of b c ≡ nothing = subst (λ (s : Song). Hands b (handed_of b c) s) e (hands_next b c) in ap (λ (x : Handed). x.event) h
reads b [] c (suc k) e =
    let h : handed_of b c ≡ nothing = subst (λ (s : Song). Hands b (handed_of b c) s) e (hands_next b c) in
    ap (λ (x : Cursor). (handed_of b x).event) (after_next b c k ∙ ap (λ (x : Handed). after b x.cursor k) h) ∙ over-offers b k
reads b (x ∷ es) c zero e = (subst (λ (s : Song). Hands b (handed_of b c) s) e (hands_next b c)).0
reads b (x ∷ es) c (suc k) e =
    let h = subst (λ (s : Song). Hands b (handed_of b c) s) e (hands_next b c) in
    ap (λ (x : Cursor). (handed_of b x).event) (after_next b c k) ∙ reads b es (handed_of b c).cursor k h.1

-- ---- from the opening on

-- the cursors of a file
after-opening : (b : List ℕ) (k : ℕ) → cursor_after b k ≡ after b (opening_of b).cursor k
unfolding cursor_after after
after-opening b zero = refl
after-opening b (suc k) = ap (λ (x : Cursor). (handed_of b x).cursor) (after-opening b k)

-- a song of a file is that of its track
pub track-song : (b : List ℕ) (es : List Event) → events_of b ≡ Events es → song_from (turns b) b (track_cursor (head_of b) b) ≡ Events es
track-song b es e =
    let t = has-track b es e in
    ap (λ (h : Header). song_from (turns b) b (track_cursor h b)) t.head ∙ sym (events-is b t.at t.end t.short t.head) ∙ e

-- the nexts hand out the events of the file
pub reads_all : ReadsAll
unfolding offered opening_of
reads_all b k = ap (λ (x : Cursor). (handed_of b x).event) (after-opening b k) ∙ go (events_of b) refl
  where
    go : (s : Song) → events_of b ≡ s → (handed_of b (after b (first_cursor (events_of b) b) k)).event ≡ entry (events_of b) k
    go (Refused number place) e = rw e (over-offers b k)
    go (Events es) e = rw e (reads b es (track_cursor (head_of b) b) k (track-song b es e))

-- ---- ranges

-- an offer of an event in its ranges
Fine : Option Event → Type 0
Fine None = Unit {0}
Fine (Some e) = InRange e

-- every offer is one, over any number of turns
fine : (n : ℕ) (b : List ℕ) (c : Cursor) → Fine (next_from n b c).event
unfolding next_from Fine
fine zero b c = tt
fine (suc n) b c = go (λ further. fine n b further) (meet_at b c) refl
  where
    go : ((further : Cursor) → Fine (next_from n b further).event) → (m : Met) → meet_at b c ≡ m → Fine (elim m as (λ x. Handed) [ Fault number place ↦ nothing | End ↦ nothing | Passed further ↦ next_from n b further | Given message further ↦ gives (event_of message further) further ]).event
    go more (Fault number place) e = tt
    go more End e = tt
    go more (Passed further) e = more further
    go more (Given message further) e =
        let g = meet-given b c message further e in
        let s = g.1 in
        record {
          low = s.low;
          high = s.high;
          first-in = s.first-in;
          second-in = s.second-in;
          one_byte = s.short;
          within-hour = rw g.0.same-division (frame-in c.division further.sum g.0.early);
        }

-- every event that is handed out is in its ranges
pub all-in-range : AllInRange
unfolding handed_of Fine
all-in-range b c e h = subst (λ (o : Option Event). Fine o) h (fine (turns b) b c)

-- ---- frames

-- events at frames that never fall, none below a frame
pub Rising : ℕ → List Event → Type 0
Rising low [] = Unit {0}
Rising low (e ∷ es) = (low ≤ e.frame) × Rising e.frame es

-- a smaller frame does as well
pub rising_down : (low high : ℕ) (es : List Event) → low ≤ high → Rising high es → Rising low es
unfolding Rising
rising_down low high [] h r = tt
rising_down low high (e ∷ es) h r = (le_trans h r.0, r.1)

-- the same of a song
pub RisingSong : ℕ → Song → Type 0
RisingSong low (Refused number place) = Unit {0}
RisingSong low (Events es) = Rising low es

-- the song from a cursor on rises from the frame of its U
pub song-rises : (n : ℕ) (b : List ℕ) (c : Cursor) → RisingSong (frame_of c.division c.sum) (song_from n b c)
unfolding song_from Rising RisingSong
song-rises zero b c = tt
song-rises (suc n) b c = go (λ further. song-rises n b further) (meet_at b c) refl
  where
    down : (low high : ℕ) (s : Song) → low ≤ high → RisingSong high s → RisingSong low s
    down low high (Refused number place) h r = tt
    down low high (Events es) h r = rising_down low high es h r

    given : (low : ℕ) (e : Event) (s : Song) → low ≤ e.frame → RisingSong e.frame s → RisingSong low (behind_event e s)
    given low e (Refused number place) h r = tt
    given low e (Events es) h r = (h, r)

    go : ((further : Cursor) → RisingSong (frame_of further.division further.sum) (song_from n b further)) → (m : Met) → meet_at b c ≡ m → RisingSong (frame_of c.division c.sum) (elim m [ Fault number place ↦ Refused number place | End ↦ Events [] | Passed further ↦ song_from n b further | Given message further ↦ behind_event (event_of message further) (song_from n b further) ])
    go more (Fault number place) e = tt
    go more End e = tt
    go more (Passed further) e =
        let f = meet-passed b c further e in
        let r = subst (λ (d : ℕ). RisingSong (frame_of d further.sum) (song_from n b further)) f.same-division (more further) in
        down (frame_of c.division c.sum) (frame_of c.division further.sum) (song_from n b further) (frame-rises c.division c.sum further.sum f.rises) r
    go more (Given message further) e =
        let f = (meet-given b c message further e).0 in
        given (frame_of c.division c.sum) (event_of message further) (song_from n b further) (rw f.same-division (frame-rises c.division c.sum further.sum f.rises)) (more further)

-- an event of a rising list is not below the frame
rising-at : (low : ℕ) (es : List Event) (k : ℕ) (e : Event) → Rising low es → event_at es k ≡ Some e → low ≤ e.frame
unfolding Rising
rising-at low [] k e r h = let z : ◌≡◌ {A = ℕ} 0 1 = cc in absurd (omega arith)
rising-at low (x ∷ es) zero e r h = let same : x.frame ≡ e.frame = cc in omega (arith, r.0)
rising-at low (x ∷ es) (suc k) e r h = le_trans r.0 (rising-at x.frame es k e r.1 h)

-- of two events of a rising list the later one is not below the other
rising-two : (low : ℕ) (es : List Event) (i j : ℕ) (e f : Event) → Rising low es → i ≤ j → event_at es i ≡ Some e → event_at es j ≡ Some f → e.frame ≤ f.frame
unfolding Rising
rising-two low [] i j e f r h p q = let z : ◌≡◌ {A = ℕ} 0 1 = cc in absurd (omega arith)
rising-two low (x ∷ es) zero zero e f r h p q = let same : e.frame ≡ f.frame = cc in omega arith
rising-two low (x ∷ es) zero (suc j) e f r h p q = let same : x.frame ≡ e.frame = cc in omega (arith, rising-at x.frame es j f r.1 q)
rising-two low (x ∷ es) (suc i) zero e f r h p q = absurd (omega arith)
rising-two low (x ∷ es) (suc i) (suc j) e f r h p q = rising-two x.frame es i j e f r.1 (omega arith) p q

-- frames never fall
pub never-fall : NeverFall
unfolding RisingSong
never-fall b i j e f h p q = go (events_of b) refl
  where
    p' : entry (events_of b) i ≡ Some e
    p' = sym (reads_all b i) ∙ p

    q' : entry (events_of b) j ≡ Some f
    q' = sym (reads_all b j) ∙ q

    go : (s : Song) → events_of b ≡ s → e.frame ≤ f.frame
    go (Refused number place) t = let r : None ≡ Some e = rw t at p' in let z : ◌≡◌ {A = ℕ} 0 1 = cc in absurd (omega arith)
    go (Events es) t =
        let c = track_cursor (head_of b) b in
        let r : RisingSong (frame_of c.division c.sum) (Events es) = subst (λ (s : Song). RisingSong (frame_of c.division c.sum) s) (track-song b es t) (song-rises (turns b) b c) in
        rising-two (frame_of c.division c.sum) es i j e f r h (rw t at p') (rw t at q')
