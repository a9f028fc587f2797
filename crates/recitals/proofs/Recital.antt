-- A song that is started and played: each event once, in order, at its frame.
use Rattle.std.proofs.Common.{Option, Some, None}
use Prim.Native.Nat.{ℕ, zero, suc, ◌+◌, ◌%◌, ◌<◌, ◌≤◌}
use mathlib.Core.Bool.{Bool, true, false, cond}
use mathlib.Core.List.{List, [], ◌∷◌, ◌++◌, append-nil}
use mathlib.Core.Logic.{◌⊎◌, inl, inr}
use mathlib.Core.Path.{◌≡◌, refl, sym, ap, ap₂, ◌∙◌, subst}
use native.Mathlib.Nat.{add-zero, zero-add, le_trans, le_refl}
use native.Mathlib.Numerals.{add-one}
use native.Mathlib.Omega.{arith}
use borrow.Author.Tests.{eqb-true, eqb-false, ltb-true, ltb-false, lt-ltb, le-ltb, le-leb, lt-leb, eq-eqb, ne_eqb}
use lib.Dec.{eqb, ltb}
use lib.IntN.{ℤ}
use lib.Ieee.{Float, nan}
use lib.ListN.{length, length-append}
use Rattle.smf.specs.declared.Cursor.{Cursor}
use Rattle.smf.specs.declared.Event.{Event}
use Rattle.smf.specs.declared.Handed.{Handed}
use Rattle.smf.specs.declared.Met.{Met}
use Rattle.smf.specs.declared.Met.TheVariants.{Fault, End, Passed, Given}
use Rattle.smf.specs.Head.{head_of}
use Rattle.smf.specs.Reading.{InRange, event_at, entry, offered, cursor_after}
use Rattle.smf.specs.Songs.{turns, events_of, opening_of, handed_of, track_cursor, first_cursor, test_of}
use Rattle.smf.specs.Track.{Song, Events, Refused, meet_at, song_from, behind_event, event_of}
use Rattle.smf.proofs.ReadingLaws.{Hands, hands_next, track-song, reads_all, never-fall, all-in-range}
use Rattle.state.specs.declared.Engine.{Engine}
use Rattle.engine.specs.Rendering.{distance, output, render_number}
use Rattle.player.specs.declared.Answer.{Answer}
use Rattle.player.specs.declared.Begun.{Begun}
use Rattle.player.specs.declared.Player.{Player}
use Rattle.player.specs.declared.Tally.{Tally}
use Rattle.player.specs.Acting.{heeded}
use Rattle.player.specs.Cues.{song_over, coming_event, with_engine, coming, cued, since, is_due}
use Rattle.player.specs.Playing.{opened, forward, applying, caught_up, prepared, performed, numbers, ticked}
use Rattle.promises.specs.Calls.{Call, Render, run}
use Rattle.promises.specs.Cuts.{numbers_of, ahead}
use Rattle.recitals.specs.Turns.{Turn, Start, Play, Step, Direct, next_turn, hush_calls, fresh_calls, one_frame, due_calls, run_turns, numbers_turns, applied_turns, refused_turns}
use Rattle.recitals.specs.Recital.{events_at, events_before, frame_by_frame, calls_for, recital, started_calls, Plays, rests, waits, plays, goes-alone, steps-over, SongIsPlayed, EachOnce, AllInAnHour}
use Rattle.promises.proofs.EachSlot.{never}
use Rattle.recitals.proofs.Clocks.{Clear}
use Rattle.recitals.proofs.Acts.{Leads, no-calls, joined, relead, hushes, freshens, hush-clock, freshen-clock, applying-acts, caught-acts, cued-engine, frame-leads, frame-clock, frames-go}
use Rattle.recitals.proofs.Parts.{after-cut, numbers-cut, Gives, behind, idle-gives, alone-gives, step_gives}
use Rattle.recitals.proofs.Turns.{start-done, play-done, play-number, play-numbers, render-number, done-clear}
use Rattle.player.specs.Pauses.{readied, hushed_to}
use Rattle.promises.proofs.Moments.{no-frame}

-- ---- lists of events

-- the events from frame n on
pub events_from : ℕ → List Event → List Event
events_from n [] = []
events_from n (v ∷ vs) = cond (ltb v.frame n) (events_from n vs) (v ∷ events_from n vs)

-- below, at, or above
compared : (m n : ℕ) → (m < n) ⊎ ((m ≡ n) ⊎ (n < m))
compared m n = by (ltb m n) refl (eqb m n) refl
  where
    by : (a : Bool) → ltb m n ≡ a → (b : Bool) → eqb m n ≡ b → (m < n) ⊎ ((m ≡ n) ⊎ (n < m))
    by true p b q = inl (ltb-true m n p)
    by false p true q = inr (inl (eqb-true m n q))
    by false p false q = inr (inr (omega (arith, ltb-false m n p, eqb-false m n q)))

-- frames that never fall, none below one
abbrev Up : ℕ → List Event → Type 0
Up low [] = Unit {0}
Up low (v ∷ vs) = (low ≤ v.frame) × Up v.frame vs

-- each of some events
abbrev pub Each : (Event → Type 0) → List Event → Type 0
Each P [] = Unit {0}
Each P (v ∷ vs) = P v × Each P vs

-- frames up to an hour
abbrev InHour : List Event → Type 0
InHour vs = Each (λ (v : Event). v.frame ≤ 158760000) vs

-- none of frame n where all come performed, and none is passed over by it
none_yet : (n low : ℕ) (vs : List Event) → n < low → Up low vs → (events_at n vs ≡ []) × (events_before n vs ≡ []) × (events_from n vs ≡ vs) × (events_from (suc n) vs ≡ vs) × (events_before (suc n) vs ≡ [])
unfolding events_at events_before events_from
none_yet n low [] h r = (refl, refl, refl, refl, refl)
none_yet n low (v ∷ vs) h r =
    let l : n < v.frame = omega (arith, r.0) in
    let t = none_yet n v.frame vs l r.1 in (
      rw (ne_eqb v.frame n (λ q. omega arith)) t.0,
      rw (le-ltb v.frame n (omega arith)) t.1,
      rw (le-ltb v.frame n (omega arith)) (ap (λ (us : List Event). v ∷ us) t.2),
      rw (le-ltb v.frame (suc n) l) (ap (λ (us : List Event). v ∷ us) t.3),
      rw (le-ltb v.frame (suc n) l) t.4,
    )

-- those before n, and then those at n, are those before n + 1
before-next : (n low : ℕ) (vs : List Event) → Up low vs → events_before n vs ++ events_at n vs ≡ events_before (suc n) vs
unfolding events_at events_before events_from
before-next n low [] r = refl
before-next n low (v ∷ vs) r = go (before-next n v.frame vs r.1) (compared v.frame n)
  where
    go : events_before n vs ++ events_at n vs ≡ events_before (suc n) vs → (v.frame < n) ⊎ ((v.frame ≡ n) ⊎ (n < v.frame))
        → events_before n (v ∷ vs) ++ events_at n (v ∷ vs) ≡ events_before (suc n) (v ∷ vs)
    go h (inl l) =
        rw (lt-ltb v.frame n l, ne_eqb v.frame n (λ q. omega arith), lt-ltb v.frame (suc n) (omega arith)) (ap (λ (us : List Event). v ∷ us) h)
    go h (inr (inl l)) =
        let q : events_before n vs ≡ [] = early n v.frame vs (omega arith) r.1 in
        rw (le-ltb v.frame n (omega arith), eq-eqb v.frame n l, lt-ltb v.frame (suc n) (omega arith), q)
        (ap (λ (us : List Event). v ∷ us) (sym (ap (λ (us : List Event). us ++ events_at n vs) q) ∙ h))
      where
        early : (n low : ℕ) (us : List Event) → n ≤ low → Up low us → events_before n us ≡ []
        early n low [] h r = refl
        early n low (u ∷ us) h r = rw (le-ltb u.frame n (omega (arith, r.0))) (early n u.frame us (omega (arith, r.0)) r.1)
    go h (inr (inr l)) = let t = none_yet n v.frame (v ∷ vs) l (le_refl v.frame, r.1) in rw (t.1, t.0, t.4) refl

-- frame by frame they are those before
by_frames : (n low : ℕ) (vs : List Event) → Up low vs → frame_by_frame n vs ≡ events_before n vs
unfolding frame_by_frame events_before
by_frames zero low vs r = sym (none vs)
  where
    none : (us : List Event) → events_before 0 us ≡ []
    none [] = refl
    none (u ∷ us) = rw (le-ltb u.frame 0 (omega arith)) (none us)
by_frames (suc n) low vs r = ap (λ (us : List Event). us ++ events_at n vs) (by_frames n low vs r) ∙ before-next n low vs r

-- all are before a frame past an hour, and none comes from it on
past-hour : (n : ℕ) (vs : List Event) → 158760000 < n → InHour vs → (events_before n vs ≡ vs) × (events_from n vs ≡ [])
unfolding events_before events_from
past-hour n [] h r = (refl, refl)
past-hour n (v ∷ vs) h r =
    let l : v.frame < n = omega (arith, r.0) in
    let t = past-hour n vs h r.1 in
    (rw (lt-ltb v.frame n l) (ap (λ (us : List Event). v ∷ us) t.0), rw (lt-ltb v.frame n l) t.1)

-- none is left exactly where all are before
from-none-left : (n : ℕ) (vs : List Event) → events_from n vs ≡ [] → events_before n vs ≡ vs
unfolding events_before events_from
from-none-left n [] h = refl
from-none-left n (v ∷ vs) h = by (from-none-left n vs) (ltb v.frame n) refl h
  where
    by : (events_from n vs ≡ [] → events_before n vs ≡ vs) → (b : Bool) → ltb v.frame n ≡ b → cond b (events_from n vs) (v ∷ events_from n vs) ≡ [] → events_before n (v ∷ vs) ≡ v ∷ vs
    by more true q k = rw q (ap (λ (us : List Event). v ∷ us) (more k))
    by more false q k = let z : ◌≡◌ {A = ℕ} 0 1 = cc in absurd (omega arith)

-- how many are left
from-fewer : (n : ℕ) (vs : List Event) → length (events_from n vs) ≤ length vs
unfolding events_from
from-fewer n [] = le_refl 0
from-fewer n (v ∷ vs) = by (from-fewer n vs) (ltb v.frame n)
  where
    by : length (events_from n vs) ≤ length vs → (b : Bool) → length (cond b (events_from n vs) (v ∷ events_from n vs)) ≤ suc (length vs)
    by h true = omega arith
    by h false = omega arith

-- before and from are all
parted : (n : ℕ) (vs : List Event) → length (events_before n vs) + length (events_from n vs) ≡ length vs
unfolding events_from events_before
parted n [] = refl
parted n (v ∷ vs) = by (parted n vs) (ltb v.frame n)
  where
    by : length (events_before n vs) + length (events_from n vs) ≡ length vs → (b : Bool)
        → length (cond b (v ∷ events_before n vs) (events_before n vs)) + length (cond b (events_from n vs) (v ∷ events_from n vs)) ≡ suc (length vs)
    by h true = omega arith
    by h false = omega arith

-- an event whose frame is passed, and one whose frame it is
skip : (n : ℕ) (v : Event) (vs : List Event) → v.frame < n
    → (events_from n (v ∷ vs) ≡ events_from n vs) × (events_at n (v ∷ vs) ≡ events_at n vs) × (events_from (suc n) (v ∷ vs) ≡ events_from (suc n) vs)
unfolding events_from events_at
skip n v vs h = (rw (lt-ltb v.frame n h) refl, rw (ne_eqb v.frame n (λ q. omega arith)) refl, rw (lt-ltb v.frame (suc n) (omega arith)) refl)

here : (n : ℕ) (v : Event) (vs : List Event) → v.frame ≡ n
    → (events_from n (v ∷ vs) ≡ v ∷ events_from n vs) × (events_at n (v ∷ vs) ≡ v ∷ events_at n vs) × (events_from (suc n) (v ∷ vs) ≡ events_from (suc n) vs)
unfolding events_from events_at
here n v vs h = (rw (le-ltb v.frame n (omega arith)) refl, rw (eq-eqb v.frame n h) refl, rw (lt-ltb v.frame (suc n) (omega arith)) refl)

-- ---- a song

module _ (song : List ℕ) (vs : List Event) (is : events_of song ≡ Events vs) where
  -- what a next offers is the event
  offers : (k : ℕ) (v : Event) → event_at vs k ≡ Some v → offered song k ≡ Some v
  offers k v h = reads_all song k ∙ ap (λ (s : Song). entry s k) is ∙ h

  rises : (low : ℕ) (us : List Event) → ((j : ℕ) (f : Event) → event_at us j ≡ Some f → low ≤ f.frame)
      → ((i j : ℕ) (e f : Event) → i ≤ j → event_at us i ≡ Some e → event_at us j ≡ Some f → e.frame ≤ f.frame) → Up low us
  rises low [] h k = tt
  rises low (u ∷ us) h k =
      (h 0 u refl, rises u.frame us (λ j f q. k 0 (suc j) u f (omega arith) refl q) (λ i j e f l p q. k (suc i) (suc j) e f (omega arith) p q))

  -- its frames never fall
  pub song-up : Up 0 vs
  song-up = rises 0 vs (λ j f q. omega arith) (λ i j e f l p q. never-fall song i j e f l (offers i e p) (offers j f q))

  -- and each is in its ranges
  pub song-each : (P : Event → Type 0) → ((v : Event) → InRange v → P v) → Each P vs
  unfolding offered
  song-each P h = go vs (λ j f q. h f (all-in-range song (cursor_after song j) f (offers j f q)))
    where
      go : (us : List Event) → ((j : ℕ) (f : Event) → event_at us j ≡ Some f → P f) → Each P us
      go [] h = tt
      go (u ∷ us) h = (h 0 u refl, go us (λ j f q. h (suc j) f q))

  song-hour : InHour vs
  song-hour = song-each (λ (v : Event). v.frame ≤ 158760000) (λ v r. r.within-hour)

-- a song has no more events than turns
song-count : (n : ℕ) (b : List ℕ) (c : Cursor) (vs : List Event) → song_from n b c ≡ Events vs → length vs ≤ n
unfolding song_from
song-count zero b c vs h = let z : ◌≡◌ {A = ℕ} 0 1 = cc in absurd (omega arith)
song-count (suc n) b c vs h = go (λ further us q. song-count n b further us q) (meet_at b c) h
  where
    given : (e : Event) (s : Song) (us : List Event) → behind_event e s ≡ Events us → ((ws : List Event) → s ≡ Events ws → length ws ≤ n) → length us ≤ suc n
    given e (Refused number place) us q more = let z : ◌≡◌ {A = ℕ} 0 1 = cc in absurd (omega arith)
    given e (Events ws) us q more = let same : e ∷ ws ≡ us = cc in omega (arith, more ws refl, ap length same)

    go : ((further : Cursor) (us : List Event) → song_from n b further ≡ Events us → length us ≤ n) → (m : Met)
        → ◌≡◌ {A = Song} (elim m [ Fault number place ↦ Refused number place | End ↦ Events [] | Passed further ↦ song_from n b further | Given message further ↦ behind_event (event_of message further) (song_from n b further) ]) (Events vs)
        → length vs ≤ suc n
    go more (Fault number place) q = let z : ◌≡◌ {A = ℕ} 0 1 = cc in absurd (omega arith)
    go more End q = let same : [] ≡ vs = cc in omega (arith, ap length same)
    go more (Passed further) q = omega (arith, more further vs q)
    go more (Given message further) q = given (event_of message further) (song_from n b further) vs q (λ ws r. more further ws r)

-- ---- the player on its way through a song

-- the events vs are still to come: the first is the one that comes next, and the others are those behind its cursor
abbrev pub Holds : List ℕ → List Event → Player → Type 0
Holds song [] p = song_over p ≡ true
Holds song (v ∷ vs) p = (song_over p ≡ false) × (coming_event p ≡ v) × (song_from (turns song) song p.cursor ≡ Events vs)

-- what is handed out of a song comes next
cue-holds : (song : List ℕ) (vs : List Event) (p : Player) (h : Handed) → Hands song h (Events vs) → Holds song vs (cued p h)
cue-holds song [] p h q = ap (λ (x : Handed). song_over (cued p x)) q
cue-holds song (v ∷ vs) p h q = by h.event q.0
  where
    by : (o : Option Event) → o ≡ Some v → Holds song (v ∷ vs) (coming p h.cursor o)
    by None r = let z : ◌≡◌ {A = ℕ} 0 1 = cc in absurd (omega arith)
    by (Some w) r = let same : w ≡ v = cc in (refl, same, q.1)

-- whatever the engine does
engine-holds : (song : List ℕ) (vs : List Event) (p : Player) (e : Engine) → Holds song vs p → Holds song vs (with_engine p e)
engine-holds song [] p e h = h
engine-holds song (v ∷ vs) p e h = h

-- the clock value at which the song began stays
cued-began : (p : Player) (h : Handed) → (cued p h).began ≡ p.began
cued-began p h = by h.event
  where
    by : (o : Option Event) → (coming p h.cursor o).began ≡ p.began
    by None = refl
    by (Some v) = refl

module _ (song bank : List ℕ) (ram rom : List ℤ) (n : ℕ) where
  -- one event applied
  applying-holds : (v : Event) (vs : List Event) (x : Tally) → Holds song (v ∷ vs) x.player → Holds song vs (applying song bank ram rom x).player
  unfolding applying
  applying-holds v vs x h =
      cue-holds song vs (with_engine x.player (heeded bank ram rom (coming_event x.player) x.player.engine).engine) (handed_of song x.player.cursor)
      (subst (λ (s : Song). Hands song (handed_of song x.player.cursor) s) h.2 (hands_next song x.player.cursor))

  applying-began : (x : Tally) → (applying song bank ram rom x).player.began ≡ x.player.began
  unfolding applying
  applying-began x = cued-began (with_engine x.player (heeded bank ram rom (coming_event x.player) x.player.engine).engine) (handed_of song x.player.cursor)

  applying-since : (x : Tally) → since (applying song bank ram rom x).player ≡ since x.player
  unfolding since
  applying-since x = rw ((applying-acts ram rom song bank x).clock, applying-began x) refl

  applying-count : (x : Tally) → (applying song bank ram rom x).applied ≡ x.applied + 1
  unfolding applying
  applying-count x = refl

  -- what is due of vs in front of frame n is applied: its events of frame n
  record Caught (m : ℕ) (vs : List Event) (x : Tally) : Type 0 where
    holds : Holds song (events_from (suc n) vs) (caught_up song bank ram rom m x).player
    calls : due_calls song bank ram rom m x ≡ calls_for bank ram rom (events_at n vs)
    began : (caught_up song bank ram rom m x).player.began ≡ x.player.began
    applied : (caught_up song bank ram rom m x).applied ≡ x.applied + length (events_at n vs)

  -- no event is due
  pub up_none : (m : ℕ) (x : Tally) → is_due x.player ≡ false → (caught_up song bank ram rom m x ≡ x) × (due_calls song bank ram rom m x ≡ [])
  unfolding caught_up due_calls
  up_none zero x h = (refl, refl)
  up_none (suc m) x h = (rw h refl, rw h refl)

  still : (m : ℕ) (vs : List Event) (x : Tally) → is_due x.player ≡ false → events_at n vs ≡ [] → Holds song (events_from (suc n) vs) x.player → Caught m vs x
  unfolding calls_for
  still m vs x d q h =
      let u = up_none m x d in
      record {
        holds = rw u.0 h;
        calls = u.1 ∙ sym (ap (calls_for bank ram rom) q);
        began = ap (λ (y : Tally). y.player.began) u.0;
        applied = ap (λ (y : Tally). y.applied) u.0 ∙ sym (ap (λ (us : List Event). x.applied + length us) q ∙ add-zero x.applied);
      }

  -- one is due, and then others may be
  one-due : (m : ℕ) (v : Event) (us : List Event) (x : Tally) → coming_event x.player ≡ v → is_due x.player ≡ true → events_at n (v ∷ us) ≡ v ∷ events_at n us
      → events_from (suc n) (v ∷ us) ≡ events_from (suc n) us → Caught m us (applying song bank ram rom x) → Caught (suc m) (v ∷ us) x
  unfolding caught_up due_calls calls_for
  one-due m v us x e d q r c =
      record {
        holds = rw (d, r) c.holds;
        calls = rw (d, q, c.calls, e) refl;
        began = rw d (c.began ∙ applying-began x);
        applied = rw (d, q) (c.applied ∙ ap (λ (k : ℕ). k + length (events_at n us)) (applying-count x) ∙ shift x.applied (length (events_at n us)));
      }
    where
      shift : (a b : ℕ) → a + 1 + b ≡ a + suc b
      shift a b = omega arith

  caught : (m low : ℕ) (vs : List Event) (x : Tally) → Up low vs → Holds song (events_from n vs) x.player → length (events_from n vs) ≤ m
      → (song_over x.player ≡ false → since x.player ≡ n) → Caught m vs x
  unfolding events_from events_at since
  caught m low [] x r h l s = still m [] x (rw h refl) refl h
  caught m low (v ∷ vs) x r h l s =
      go m (λ k y. caught k v.frame vs y r.1) h l (compared v.frame n)
    where
      Later : Type 0
      Later = (k : ℕ) (y : Tally) → Holds song (events_from n vs) y.player → length (events_from n vs) ≤ k → (song_over y.player ≡ false → since y.player ≡ n) → Caught k vs y

      go : (m : ℕ) → Later → Holds song (events_from n (v ∷ vs)) x.player → length (events_from n (v ∷ vs)) ≤ m → (v.frame < n) ⊎ ((v.frame ≡ n) ⊎ (n < v.frame)) → Caught m (v ∷ vs) x
      go m more h l (inl q) =
          let t = skip n v vs q in
          let c = more m x (subst (λ (us : List Event). Holds song us x.player) t.0 h) (subst (λ (us : List Event). length us ≤ m) t.0 l) s in
          record {
            holds = subst (λ (us : List Event). Holds song us (caught_up song bank ram rom m x).player) (sym t.2) c.holds;
            calls = c.calls ∙ ap (calls_for bank ram rom) (sym t.1);
            began = c.began;
            applied = c.applied ∙ ap (λ (us : List Event). x.applied + length us) (sym t.1);
          }
      go zero more h l (inr (inl q)) = let k = subst (λ (us : List Event). length us ≤ 0) (here n v vs q).0 l in absurd (omega arith)
      go (suc m) more h l (inr (inl q)) =
          let t = here n v vs q in
          let k = subst (λ (us : List Event). Holds song us x.player) t.0 h in
          let w = s k.0 in
          let f : (coming_event x.player).frame ≤ since x.player = rw (k.1, w) (omega arith) in
          one-due m v vs x k.1 (rw (k.0, le-leb (coming_event x.player).frame (since x.player) f) refl) t.1 t.2
          (more m (applying song bank ram rom x) (applying-holds v (events_from n vs) x k) (few (subst (λ (us : List Event). length us ≤ suc m) t.0 l)) (λ z. applying-since x ∙ w))
        where
          few : {a b : ℕ} → suc a ≤ suc b → a ≤ b
          few {a} {b} h = omega arith
      go m more h l (inr (inr q)) =
          let t = none_yet n v.frame (v ∷ vs) q (le_refl v.frame, r.1) in
          let k = subst (λ (us : List Event). Holds song us x.player) t.2 h in
          let f : since x.player < (coming_event x.player).frame = rw (k.1, s k.0) q in
          still m (v ∷ vs) x (rw (k.0, lt-leb (coming_event x.player).frame (since x.player) f) refl) t.0
          (subst (λ (us : List Event). Holds song us x.player) (sym t.3) k)

-- ---- frame by frame

-- from frame 0 on they are all, and none is before it
at_first : (vs : List Event) → (events_from 0 vs ≡ vs) × (events_before 0 vs ≡ [])
unfolding events_from events_before
at_first [] = (refl, refl)
at_first (v ∷ vs) =
    let t = at_first vs in
    let l = le-ltb v.frame 0 (omega arith) in
    (rw l (ap (λ (us : List Event). v ∷ us) t.0), rw l t.1)

module _ (song bank : List ℕ) (ram rom : List ℤ) (vs : List Event) (is : events_of song ≡ Events vs) (p : Player)
    (here : p.engine.clock ≡ p.began) (small : p.began < 4294967296) (holds : Holds song vs p) where
  -- after n frames
  abbrev pub then : ℕ → Tally
  then n = performed song bank ram rom n (opened p)

  -- the player in front of frame n, and the calls that have led to it
  pub record Now (n : ℕ) : Type 0 where
    pub comes : Holds song (events_from n vs) (then n).player
    pub began : (then n).player.began ≡ p.began
    pub clock : (then n).player.engine.clock ≡ (p.began + n) % 4294967296
    pub leads : Leads p.engine (recital bank ram rom vs p.began n) (then n).player.engine (numbers song bank ram rom n (opened p)) n
    pub applied : (then n).applied ≡ length (events_before n vs)

  -- the count of frames, as long as an event comes
  counts : (n : ℕ) → Now n → song_over (then n).player ≡ false → since (then n).player ≡ n
  unfolding since
  counts n w e = by (ltb 158760000 n) refl
    where
      by : (b : Bool) → ltb 158760000 n ≡ b → since (then n).player ≡ n
      by true q =
          let k = subst (λ (us : List Event). Holds song us (then n).player) (past-hour n vs (ltb-true 158760000 n q) (song-hour song vs is)).1 w.comes in
          absurd (never (sym e ∙ k))
      by false q = omega (arith, ltb-false 158760000 n q, w.clock, w.began)

  -- one frame on
  then_next : (n : ℕ) → then (suc n) ≡ forward ram rom 1 (prepared song bank ram rom (then n))
  unfolding performed
  then_next n = ap (λ (m : ℕ). performed song bank ram rom m (opened p)) (sym (add-one n)) ∙ after-cut song bank ram rom n 1 (opened p)

  numbers-next : (n : ℕ) → numbers song bank ram rom (suc n) (opened p)
      ≡ numbers song bank ram rom n (opened p) ++ ([] ++ output ram rom (prepared song bank ram rom (then n)).player.engine 1)
  unfolding numbers
  numbers-next n =
      ap (λ (m : ℕ). numbers song bank ram rom m (opened p)) (sym (add-one n)) ∙ numbers-cut song bank ram rom n 1 (opened p)
      ∙ ap (λ (os : List Float). numbers song bank ram rom n (opened p) ++ os) (append-nil (output ram rom (prepared song bank ram rom (then n)).player.engine 1))

  -- a song has turns enough
  enough : (n : ℕ) → length (events_from n vs) ≤ turns song
  enough n = le_trans (from-fewer n vs) (song-count (turns song) song (track_cursor (head_of song) song) vs (track-song song vs is))

  now-next : (n : ℕ) → Clear ram rom p.engine → Now n → Now (suc n)
  unfolding forward recital
  now-next n c w =
      let x = then n in
      let y = prepared song bank ram rom x in
      let k = caught song bank ram rom n (turns song) 0 vs x (song-up song vs is) w.comes (enough n) (counts n w) in
      let a = caught-acts ram rom song bank (turns song) x in
      let g = frames-go ram rom song bank n (opened p) (omega (arith, here)) c in
      let t : y.player.engine.clock ≡ (p.began + n) % 4294967296 = a.clock ∙ w.clock in
      let f = frame-leads ram rom y.player.engine (omega arith) (a.clear g.clear) in
      let z = then_next n in
      let later : ahead y.player.engine 1 ≡ (p.began + suc n) % 4294967296 = omega arith in
      record {
        comes = rw z (engine-holds song (events_from (suc n) vs) y.player (ticked ram rom 1 y.player.engine) k.holds);
        began = ap (λ (u : Tally). u.player.began) z ∙ k.began ∙ w.began;
        clock = ap (λ (u : Tally). u.player.engine.clock) z ∙ frame-clock ram rom y.player.engine ∙ later;
        leads =
            relead (joined w.leads (joined a.leads f))
            (ap₂ (λ (cs : List Call) (to : ℕ). recital bank ram rom vs p.began n ++ (cs ++ (one_frame ram rom to ∷ []))) (sym k.calls) (sym later))
            (ap (λ (u : Tally). u.player.engine) z) (numbers-next n) (omega arith);
        applied =
            ap (λ (u : Tally). u.applied) z ∙ k.applied ∙ ap (λ (m : ℕ). m + length (events_at n vs)) w.applied
            ∙ sym (length-append (events_before n vs) (events_at n vs)) ∙ ap length (before-next n 0 vs (song-up song vs is));
      }

  pub now : (n : ℕ) → (0 < n → Clear ram rom p.engine) → Now n
  unfolding performed numbers recital
  now zero c =
      let t = at_first vs in
      record {
        comes = subst (λ (us : List Event). Holds song us p) (sym t.0) holds;
        began = refl;
        clock = omega (arith, here);
        leads = no-calls p.engine;
        applied = sym (ap length t.1);
      }
  now (suc n) c = let d = c (omega arith) in now-next n d (now n (λ z. d))

-- ---- the turns that play it

-- the way to a clock value that is m frames ahead
ahead-far : (e : Engine) (m : ℕ) → e.clock < 4294967296 → m ≤ 4096 → distance e (ahead e m) ≡ m
unfolding distance
ahead-far e m h k = omega arith

module _ (song bank : List ℕ) (ram rom : List ℤ) where
  -- they are frames one behind the other
  pub plays-give : (ts : List Turn) (n : ℕ) (p : Player) → Plays song bank ram rom ts n p → Gives song bank ram rom ts p n
  unfolding performed numbers run_turns numbers_turns applied_turns refused_turns
  plays-give [] _ p rests = record { player = refl; numbered = refl; applied = refl; refused = refl }
  plays-give (x ∷ ts) n p (waits y s f q) = idle-gives song bank ram rom x ts p n s f (plays-give ts n p q)
  plays-give (x ∷ ts) _ p (plays {n = n} to out ok q) =
      let z : render_number to ram rom (length out) p.engine ≡ 0 = sym (play-number song bank ram rom to (length out) p) ∙ ok in
      let d = play-done song bank ram rom to (length out) p z in
      behind song bank ram rom (distance p.engine to) n (Play song bank ram rom to out) ts p (ap (λ (a : Answer). a.player) d)
      (play-numbers song bank ram rom to out p z) (ap (λ (a : Answer). a.applied) d) (ap (λ (a : Answer). a.refused) d)
      (plays-give ts n (next_turn (Play song bank ram rom to out) p) q)
  plays-give (x ∷ ts) _ p (goes-alone {n = n} m most out some near few c b f ok q) =
      alone-gives song bank ram rom m n most out ts p (record { clock = c; began = b; frame = f }) some near (ahead-far p.engine m c few) ok
      (plays-give ts n (next_turn (Direct (Render (ahead p.engine m) ram rom out)) p) q)
  plays-give (x ∷ ts) n p (steps-over due some ok q) =
      step_gives song bank ram rom n ts p some due (plays-give ts n (next_turn (Step song bank ram rom) p) q)

  -- and where there is a frame, no window ends past its memory before them
  pub plays-clear : (ts : List Turn) (n : ℕ) (p : Player) → Plays song bank ram rom ts n p → 0 < n → Clear ram rom p.engine
  plays-clear [] _ p rests h = absurd (no-frame h)
  plays-clear (x ∷ ts) n p (waits y s f q) h = plays-clear ts n p q h
  plays-clear (x ∷ ts) _ p (plays to out ok q) h = done-clear song bank ram rom to out p.engine (sym (play-number song bank ram rom to (length out) p) ∙ ok)
  plays-clear (x ∷ ts) _ p (goes-alone m most out some near few c b f ok q) h =
      done-clear song bank ram rom (ahead p.engine m) out p.engine (sym (render-number song bank ram rom (ahead p.engine m) out p.engine) ∙ ok)
  plays-clear (x ∷ ts) _ p (steps-over due some ok q) h =
      done-clear song bank ram rom (ahead p.engine 1) (nan ∷ nan ∷ []) p.engine (sym (play-number song bank ram rom (ahead p.engine 1) 2 p) ∙ ok)

-- ---- a song that is started

module _ (song : List ℕ) (vs : List Event) (is : events_of song ≡ Events vs) (p : Player) where
  opened-song : (opening_of song).number ≡ 0
  unfolding opening_of test_of
  opened-song = rw is refl

  first-song : song_from (turns song) song (opening_of song).cursor ≡ Events vs
  unfolding opening_of
  first-song = ap (λ (s : Song). song_from (turns song) song (first_cursor s song)) is ∙ track-song song vs is

  -- the player behind the start
  pub start_is : next_turn (Start song) p ≡ cued (readied p) (handed_of song (opening_of song).cursor)
  start_is = ap (λ (b : Begun). b.player) (start-done song p opened-song)

  pub start-holds : Holds song vs (next_turn (Start song) p)
  start-holds =
      rw start_is (cue-holds song vs (readied p) (handed_of song (opening_of song).cursor)
      (subst (λ (s : Song). Hands song (handed_of song (opening_of song).cursor) s) first-song (hands_next song (opening_of song).cursor)))

  pub start-began : (next_turn (Start song) p).began ≡ p.engine.clock
  start-began = rw start_is (cued-began (readied p) (handed_of song (opening_of song).cursor))

  pub start-clock : (next_turn (Start song) p).engine.clock ≡ p.engine.clock
  start-clock =
      rw start_is (ap (λ (e : Engine). e.clock) (cued-engine (readied p) (handed_of song (opening_of song).cursor))
      ∙ freshen-clock 16 (hushed_to 16 p.engine) ∙ hush-clock 16 p.engine)

  pub start-calls : Leads p.engine (hush_calls 16 ++ fresh_calls 16) (next_turn (Start song) p).engine [] 0
  start-calls =
      relead (joined (hushes 16 p.engine) (freshens 16 (hushed_to 16 p.engine))) refl
      (ap (λ (q : Player). q.engine) start_is ∙ cued-engine (readied p) (handed_of song (opening_of song).cursor)) refl refl

-- a player is over exactly where all events are before
over-all : (song : List ℕ) (n : ℕ) (vs : List Event) (p : Player) → Holds song (events_from n vs) p → song_over p ≡ true → events_before n vs ≡ vs
over-all song n vs p h e = by (events_from n vs) refl h
  where
    by : (us : List Event) → events_from n vs ≡ us → Holds song us p → events_before n vs ≡ vs
    by [] q k = from-none-left n vs q
    by (u ∷ us) q k = absurd (never (sym k.0 ∙ e))

all-over : (song : List ℕ) (n : ℕ) (vs : List Event) (p : Player) → Holds song (events_from n vs) p → events_before n vs ≡ vs → song_over p ≡ true
all-over song n vs p h e = by (events_from n vs) (ap length e) (parted n vs) h
  where
    by : (us : List Event) → length (events_before n vs) ≡ length vs → length (events_before n vs) + length us ≡ length vs → Holds song us p → song_over p ≡ true
    by [] q r k = k
    by (u ∷ us) q r k = absurd (omega arith)

-- ---- the statements

pub each-once : EachOnce
each-once song vs n is = by_frames n 0 vs (song-up song vs is)

pub all-in-an-hour : AllInAnHour
all-in-an-hour song vs n is h = (past-hour n vs h (song-hour song vs is)).0

pub song-is-played : SongIsPlayed
unfolding run_turns numbers_turns applied_turns
song-is-played song bank ram rom vs n ts p h is q =
    let p0 = next_turn (Start song) p in
    let e = start-clock song vs is p in
    let b = start-began song vs is p in
    let g = plays-give song bank ram rom ts n p0 q in
    let w = now song bank ram rom vs is p0 (e ∙ sym b) (rw b h) (start-holds song vs is p) n (plays-clear song bank ram rom ts n p0 q) in
    let l = joined (start-calls song vs is p) w.leads in
    let cs : started_calls bank ram rom vs p.engine.clock n ≡ (hush_calls 16 ++ fresh_calls 16) ++ recital bank ram rom vs p0.began n =
    ap (λ (t : ℕ). (hush_calls 16 ++ fresh_calls 16) ++ recital bank ram rom vs t n) (sym b) in
    record {
      engine = ap (λ (u : Player). u.engine) g.player ∙ l.state ∙ ap (λ (xs : List Call). run xs p.engine) (sym cs);
      numbers = g.numbered ∙ l.numbers ∙ ap (λ (xs : List Call). numbers_of xs p.engine) (sym cs);
      clock = ap (λ (u : Player). u.engine.clock) g.player ∙ w.clock ∙ ap (λ (t : ℕ). (t + n) % 4294967296) b;
      applied = zero-add _ ∙ g.applied ∙ w.applied;
      over = λ z. over-all song n vs _ w.comes (sym (ap (λ (u : Player). song_over u) g.player) ∙ z);
      all = λ z. ap (λ (u : Player). song_over u) g.player ∙ all-over song n vs _ w.comes z;
    }
