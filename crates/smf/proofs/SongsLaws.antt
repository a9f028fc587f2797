-- Laws of a whole file's test and opening.
use mathlib.Core.Bool.{Bool, true, false}
use mathlib.Core.List.{List}
use mathlib.Core.Path.{◌≡◌, refl, sym, ap, ◌∙◌}
use Prim.Native.Nat.{ℕ, ◌<◌, ◌≤◌}
use native.Mathlib.Omega.{arith}
use borrow.Author.Tests.{ltb-true, ltb-false, le-ltb}
use lib.Dec.{ltb, lit≤}
use lib.ListN.{length}
use Rattle.smf.specs.declared.Cursor.{Cursor}
use Rattle.smf.specs.declared.Event.{Event}
use Rattle.smf.specs.declared.Message.{Message}
use Rattle.smf.specs.declared.Met.TheVariants.{Given}
use Rattle.smf.specs.declared.Header.{Header}
use Rattle.smf.specs.declared.Header.TheVariants.{Track}
use Rattle.smf.specs.declared.Opening.{Opening}
use Rattle.smf.specs.Faults.{Wrong}
use Rattle.smf.specs.Faults.Wrong.{no-head, short-head, long-head, format, tracks, no-division, smpte, no_chunk, long-chunk, delta, event, late}
use Rattle.smf.specs.Head.{head_of}
use Rattle.smf.specs.Track.{Song, Events, Refused, event_of, behind_event, meet_at, song_from, over}
use Rattle.smf.specs.Songs.{start_at, turns, events_of, verdict, track_cursor, first_cursor, test_of, opening_of}
use Rattle.smf.proofs.TrackLaws.{song-given}
use Rattle.smf.proofs.FirstFaultLaws.{long-refused, refused-first, good-not-wrong}

-- an event in front changes no verdict
verdict-behind : (e : Event) (song : Song) → verdict (behind_event e song) ≡ verdict song
verdict-behind e (Refused number place) = refl
verdict-behind e (Events es) = refl

-- a channel event is no reason to refuse
pub test-given : (b : List ℕ) (c : Cursor) (message : Message) (further : Cursor) → meet_at b c ≡ Given message further → verdict (song_from (turns b) b c) ≡ verdict (song_from (turns b) b further)
test-given b c message further h = ap verdict (song-given b c message further h) ∙ verdict-behind (event_of message further) (song_from (turns b) b further)

-- each case has one of the three numbers
wrong-number : (b : List ℕ) (number place : ℕ) → Wrong b number place → 9 ≤ number
wrong-number b _ _ (no-head h) = lit≤ tt
wrong-number b _ _ (short-head h) = lit≤ tt
wrong-number b _ _ (long-head h) = lit≤ tt
wrong-number b _ _ (format h) = lit≤ tt
wrong-number b _ _ (tracks h) = lit≤ tt
wrong-number b _ _ (no-division h) = lit≤ tt
wrong-number b _ _ (smpte h) = lit≤ tt
wrong-number b _ _ (no_chunk at h k) = lit≤ tt
wrong-number b _ _ (long-chunk at h k l) = lit≤ tt
wrong-number b _ _ (delta c h e) = lit≤ tt
wrong-number b _ _ (event c ticks place h d e) = lit≤ tt
wrong-number b _ _ (late c ticks place h d e) = lit≤ tt

-- a refusal's number is never 0
pub refused-number : (b : List ℕ) (number place : ℕ) → events_of b ≡ Refused number place → 9 ≤ number
refused-number b number place e = go (ltb 65536 (length b)) refl
  where
    go : (t : Bool) → ltb 65536 (length b) ≡ t → 9 ≤ number
    go true t =
        let same : Refused 9 65536 ≡ Refused number place = sym (long-refused b (ltb-true 65536 (length b) t)) ∙ e in
        let nine : 9 ≡ number = cc in
        omega arith
    go false t = wrong-number b number place (refused-first b number place (ltb-false 65536 (length b) t) e).wrong

-- a file that is refused is opened with a cursor that gives nothing
pub opened-bad : (b : List ℕ) → ((test_of b).number ≡ 0 → ⊥) → opening_of b ≡ record { number = (test_of b).number; place = (test_of b).place; cursor = over }
unfolding opening_of test_of
opened-bad b h = go (events_of b) refl
  where
    go : (s : Song) → events_of b ≡ s → ◌≡◌ {A = Opening} (record { number = (verdict (events_of b)).number; place = (verdict (events_of b)).place; cursor = first_cursor (events_of b) b }) (record { number = (verdict (events_of b)).number; place = (verdict (events_of b)).place; cursor = over })
    go (Refused number place) e = rw e refl
    go (Events es) e = absurd (h (rw e refl))

-- any other is opened with the cursor in front of its track
pub opened-good : (b : List ℕ) → (test_of b).number ≡ 0 → (length b ≤ 65536) × (opening_of b ≡ record { number = 0; place = 0; cursor = track_cursor (head_of b) b })
unfolding opening_of test_of
opened-good b h = go (events_of b) refl
  where
    go : (s : Song) → events_of b ≡ s → (length b ≤ 65536) × (◌≡◌ {A = Opening} (record { number = (verdict (events_of b)).number; place = (verdict (events_of b)).place; cursor = first_cursor (events_of b) b }) (record { number = 0; place = 0; cursor = track_cursor (head_of b) b }))
    go (Refused number place) e =
        let nine = refused-number b number place e in
        let zero : number ≡ 0 = rw e at h in
        absurd (omega (arith, nine, zero))
    go (Events es) e = ((good-not-wrong b es e).0, rw e refl)

-- the events by the head
pub events-is : (b : List ℕ) (at end : ℕ) → length b ≤ 65536 → head_of b ≡ Header.Track at end → events_of b ≡ song_from (turns b) b (start_at b at end)
unfolding events_of
events-is b at end h e = rw (le-ltb 65536 (length b) h, e) refl

-- a file with events is not too long, and its head leads to a track
pub record HasTrack (b : List ℕ) : Type 0 where
  pub short : length b ≤ 65536
  pub at : ℕ
  pub end : ℕ
  pub head : head_of b ≡ Header.Track at end

-- where there are events there is a track
pub has-track : (b : List ℕ) (es : List Event) → events_of b ≡ Events es → HasTrack b
unfolding events_of
has-track b es e = go (ltb 65536 (length b)) refl (head_of b) refl
  where
    go : (t : Bool) → ltb 65536 (length b) ≡ t → (h : Header) → head_of b ≡ h → HasTrack b
    go true f h g = let z : Refused 9 65536 ≡ Events es = rw f at e in let y : ◌≡◌ {A = ℕ} 0 1 = cc in absurd (omega arith)
    go false f (Header.Refused number place) g = let z : Refused number place ≡ Events es = rw (f, g) at e in let y : ◌≡◌ {A = ℕ} 0 1 = cc in absurd (omega arith)
    go false f (Header.Track at end) g = record { short = ltb-false 65536 (length b) f; at = at; end = end; head = g }

-- the test of a file that is too long
pub test-long : (b : List ℕ) → 65536 < length b → test_of b ≡ record { number = 9; place = 65536 }
unfolding test_of
test-long b h = ap verdict (long-refused b h)

-- the test of a file whose head is refused
pub test-head : (b : List ℕ) (number place : ℕ) → length b ≤ 65536 → head_of b ≡ Header.Refused number place → test_of b ≡ record { number = number; place = place }
unfolding test_of events_of
test-head b number place h e = rw (le-ltb 65536 (length b) h) (rw (e, events_of) refl)

-- the test of a file whose track is found
pub test-track : (b : List ℕ) (at end : ℕ) → length b ≤ 65536 → head_of b ≡ Track at end → test_of b ≡ verdict (song_from (turns b) b (start_at b at end))
unfolding test_of
test-track b at end h e = ap verdict (events-is b at end h e)
