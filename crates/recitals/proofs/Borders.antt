-- What the player answers, and what start, stop and steps do.
use Prim.Native.Nat.{ℕ, ◌*◌}
use mathlib.Core.Bool.{Bool, true, false, cond}
use mathlib.Core.List.{List, [], ◌∷◌}
use mathlib.Core.Path.{◌≡◌, refl, sym, ap, ◌∙◌, subst}
use native.Mathlib.Omega.{arith}
use borrow.Author.Tests.{eqb-true, eqb-false, ne_eqb}
use lib.Dec.{eqb, lit≤}
use lib.IntN.{ℤ}
use lib.ListN.{length, drop}
use lib.Seq.{drop_at}
use Rattle.smf.specs.Songs.{events_of, test_of, opening_of, handed_of}
use Rattle.smf.specs.declared.Event.{Event}
use Rattle.smf.specs.declared.Handed.{Handed}
use Rattle.smf.specs.Track.{Song, Events, Refused}
use Rattle.smf.proofs.SongsLaws.{refused-number}
use Rattle.state.specs.Answers.{Answered}
use Rattle.state.specs.declared.Engine.{Engine}
use Rattle.state.specs.Channels.{channel_at}
use Rattle.state.specs.Slots.{slot_at}
use Rattle.engine.specs.Rendering.{distance, render_number}
use Rattle.player.specs.declared.Answer.{Answer}
use Rattle.player.specs.declared.Begun.{Begun}
use Rattle.player.specs.declared.Player.{Player}
use Rattle.player.specs.declared.Stepped.{Stepped}
use Rattle.player.specs.Acting.{kind_of, channel_in, bend_in, heeded, heeded_as}
use Rattle.player.specs.Cues.{song_over, coming_event, idle, with_engine, cued}
use Rattle.player.specs.Pauses.{hushed_to, freshened_to, readied, stopped}
use Rattle.player.specs.Playing.{opened, applying, numbers, sounded_into, answered}
use Rattle.promises.specs.Calls.{Call, NoteOn, NoteOff, Control, Program, Bend, does, next}
use Rattle.promises.proofs.Demand1.{changes-nothing}
use Rattle.promises.specs.Night.{AllReleased}
use Rattle.promises.proofs.Kept.{run-keeps}
use Rattle.recitals.specs.Turns.{Turn, Start, Step, next_turn, call_of, calls_of, run_turns, calls_turns, InClocks}
use Rattle.recitals.specs.Borders.{StartAnswers, StartIsTested, Unplayed, PlayIsTested, first_number, StepAnswers, StepIsTested, ChannelsBeginFresh, ClockStands, Stands, VoicesStand, StartReleases, StopEnds}
use Rattle.recitals.proofs.Acts.{hushes, hush-clock, freshen-clock, cued-engine}
use Rattle.recitals.proofs.Turns.{start-done, start-refused, play-refused, play-number, render-number, sounded-done, numbers-length, step-none, step-one, idle-run}
use Rattle.recitals.proofs.Hushes.{many-channels, hushed-pedals, freshened-channels, hushed-stands, freshened-slots, all-hushed, all-freshened}

-- ---- start

-- the opening's number and place are the test's
opening-number : (song : List ℕ) → (opening_of song).number ≡ (test_of song).number
unfolding opening_of
opening-number song = refl

opening-place : (song : List ℕ) → (opening_of song).place ≡ (test_of song).place
unfolding opening_of
opening-place song = refl

-- a file that is not refused has no place
good-place : (song : List ℕ) → (test_of song).number ≡ 0 → (test_of song).place ≡ 0
unfolding test_of
good-place song h = by (events_of song) refl
  where
    by : (s : Song) → events_of song ≡ s → (test_of song).place ≡ 0
    by (Refused number place) e =
        let nine = refused-number song number place e in
        let zero : number ≡ 0 = rw e at h in
        absurd (omega (arith, nine, zero))
    by (Events vs) e = rw e refl

pub start-is-tested : StartIsTested
start-is-tested song p = by (eqb (opening_of song).number 0) refl
  where
    by : (b : Bool) → eqb (opening_of song).number 0 ≡ b → StartAnswers song p
    by true q =
        let z = eqb-true (opening_of song).number 0 q in
        let d = start-done song p z in
        let t : (test_of song).number ≡ 0 = sym (opening-number song) ∙ z in
        record {
          number = ap (λ (b : Begun). b.number) d ∙ sym t;
          place = ap (λ (b : Begun). b.place) d ∙ sym (good-place song t);
          refused = λ n. absurd (n t);
        }
    by false q =
        let z = eqb-false (opening_of song).number 0 q in
        let d = start-refused song p z in
        record {
          number = ap (λ (b : Begun). b.number) d ∙ opening-number song;
          place = ap (λ (b : Begun). b.place) d ∙ opening-place song;
          refused = λ n. ap (λ (b : Begun). b.player) d;
        }

-- a started player's engine
started-engine : (song : List ℕ) (p : Player) → (test_of song).number ≡ 0 → (next_turn (Start song) p).engine ≡ freshened_to 16 (hushed_to 16 p.engine)
started-engine song p t =
    ap (λ (b : Begun). b.player.engine) (start-done song p (opening-number song ∙ t)) ∙ cued-engine (readied p) (handed_of song (opening_of song).cursor)

-- ---- render

pub play-is-tested : PlayIsTested
unfolding sounded_into
play-is-tested song bank ram rom to out p =
    record {
      number = number ∙ sym (render-number song bank ram rom to out p.engine);
      refusal = λ n. untouched (λ z. n (number ∙ z));
      behind = by (eqb (render_number to ram rom (length out) p.engine) 0) refl;
    }
  where
    number : (answered song bank ram rom to (length out) p).number ≡ render_number to ram rom (length out) p.engine
    number = play-number song bank ram rom to (length out) p

    untouched : (render_number to ram rom (length out) p.engine ≡ 0 → ⊥) → Unplayed song bank ram rom to out p
    untouched n =
        let d = play-refused song bank ram rom to (length out) p n in
        record {
          player = ap (λ (a : Answer). a.player) d;
          applied = ap (λ (a : Answer). a.applied) d;
          refused = ap (λ (a : Answer). a.refused) d;
          output = rw (ne_eqb (render_number to ram rom (length out) p.engine) 0 n) refl;
        }

    by : (b : Bool) → eqb (render_number to ram rom (length out) p.engine) 0 ≡ b
        → drop (2 * distance p.engine to) (sounded_into song bank ram rom to out p) ≡ drop (2 * distance p.engine to) out
    by true q =
        let z = eqb-true (render_number to ram rom (length out) p.engine) 0 q in
        let n = distance p.engine to in
        ap (drop (2 * n)) (sounded-done song bank ram rom to out p z)
        ∙ drop_at (numbers song bank ram rom n (opened p)) (drop (2 * n) out) (2 * n) (numbers-length song bank ram rom n (opened p))
    by false q = ap (drop (2 * distance p.engine to)) (untouched (eqb-false (render_number to ram rom (length out) p.engine) 0 q)).output

-- ---- step

module _ (bank : List ℕ) (ram rom : List ℤ) (v : Event) (e : Engine) where
  -- one of two, by one test
  pick-number : (t : Bool) (a b : Answered) (x y : List Call) → first_number x e ≡ a.status → first_number y e ≡ b.status → first_number (cond t x y) e ≡ (cond t a b).status
  pick-number true a b x y h k = h
  pick-number false a b x y h k = k

  pick-kept : (t : Bool) (a b : Answered) → ((a.status ≡ 0 → ⊥) → a.engine ≡ e) → ((b.status ≡ 0 → ⊥) → b.engine ≡ e)
      → ((cond t a b).status ≡ 0 → ⊥) → (cond t a b).engine ≡ e
  pick-kept true a b h k = h
  pick-kept false a b h k = k

  -- an event's number is that of its call
  event-number : first_number (call_of bank ram rom v) e ≡ (heeded bank ram rom v e).status
  unfolding heeded_as call_of
  event-number =
      pick-number (eqb (kind_of v) 8) _ _ (NoteOff _ _ ∷ []) _ refl
      (pick-number (eqb (kind_of v) 9) _ _ (NoteOn bank ram rom _ _ _ ∷ []) _ refl
      (pick-number (eqb (kind_of v) 11) _ _ (Control _ _ _ ∷ []) _ refl
      (pick-number (eqb (kind_of v) 12) _ _ (Program _ _ ∷ []) _ refl (pick-number (eqb (kind_of v) 14) _ _ (Bend _ _ ∷ []) [] refl refl))))

  -- one that is refused leaves the engine as it was
  event-kept : ((heeded bank ram rom v e).status ≡ 0 → ⊥) → (heeded bank ram rom v e).engine ≡ e
  unfolding heeded_as
  event-kept =
      let c = channel_in v in
      let kept : (x : Call) → ((does x e).status ≡ 0 → ⊥) → (does x e).engine ≡ e = λ x h. (changes-nothing x e h).state in
      pick-kept (eqb (kind_of v) 8) _ _ (kept (NoteOff c v.first))
      (pick-kept (eqb (kind_of v) 9) _ _ (kept (NoteOn bank ram rom c v.first v.second))
      (pick-kept (eqb (kind_of v) 11) _ _ (kept (Control c v.first v.second))
      (pick-kept (eqb (kind_of v) 12) _ _ (kept (Program c v.first)) (pick-kept (eqb (kind_of v) 14) _ _ (kept (Bend c (bend_in v))) (λ h. refl)))))

pub step-is-tested : StepIsTested
unfolding applying
step-is-tested song bank ram rom p = by (song_over p) refl
  where
    calls : Bool → List Call
    calls b = cond b [] (call_of bank ram rom (coming_event p))

    heard : Answered
    heard = heeded bank ram rom (coming_event p) p.engine

    handed : Handed
    handed = handed_of song p.cursor

    not-both : {b : Bool} → b ≡ true → b ≡ false → ⊥
    not-both h k = let z : ◌≡◌ {A = ℕ} 1 0 = ap (λ (t : Bool). cond t 1 0) (sym h ∙ k) in absurd (omega arith)

    by : (b : Bool) → song_over p ≡ b → StepAnswers song bank ram rom p
    by true e =
        let z = step-none song bank ram rom p e in
        record {
          number = ap (λ (x : Stepped). x.number) z ∙ sym (ap (λ (b : Bool). first_number (calls b) p.engine) e);
          none = λ h. (ap (λ (x : Stepped). x.player) z, ap (λ (x : Stepped). x.applied) z);
          one = λ h. absurd (not-both e h);
          behind = λ h. absurd (not-both e h);
          refused = λ n. absurd (n (ap (λ (x : Stepped). x.number) z));
        }
    by false e =
        let s = step-one song bank ram rom p e in
        let same = ap (λ (x : Stepped). x.player) s in
        record {
          number =
              ap (λ (x : Stepped). x.number) s ∙ sym (event-number bank ram rom (coming_event p) p.engine)
              ∙ sym (ap (λ (b : Bool). first_number (calls b) p.engine) e);
          none = λ h. absurd (not-both h e);
          one = λ h. ap (λ (x : Stepped). x.applied) s;
          behind =
              λ h. same
              ∙ ap (λ (x : Engine). cued (with_engine p x) handed) (sym (ap (λ (u : Player). u.engine) same ∙ cued-engine (with_engine p heard.engine) handed));
          refused =
              λ n. same
              ∙ ap (λ (x : Engine). cued (with_engine p x) handed)
              (event-kept bank ram rom (coming_event p) p.engine (λ z. n (ap (λ (x : Stepped). x.number) s ∙ z)));
        }

-- ---- channels, clock and voices

pub channels-begin-fresh : ChannelsBeginFresh
channels-begin-fresh song p c t k l =
    let e = hushed_to 16 p.engine in
    let n : length e.channels ≡ 16 =
    subst (λ (x : Engine). length x.channels ≡ 16) (sym (hushes 16 p.engine).state) (run-keeps (λ (x : Engine). length x.channels ≡ 16) many-channels _ p.engine k) in
    ap (λ (x : Engine). channel_at x c) (started-engine song p t) ∙ (freshened-channels 16 c e (lit≤ tt) n (hushed-pedals 16 c p.engine (lit≤ tt) l)).1 l

pub clock-stands : ClockStands
unfolding stopped
clock-stands song p = (by (eqb (opening_of song).number 0) refl, hush-clock 16 p.engine)
  where
    by : (b : Bool) → eqb (opening_of song).number 0 ≡ b → (next_turn (Start song) p).engine.clock ≡ p.engine.clock
    by true q =
        let t = sym (opening-number song) ∙ eqb-true (opening_of song).number 0 q in
        ap (λ (e : Engine). e.clock) (started-engine song p t) ∙ freshen-clock 16 (hushed_to 16 p.engine) ∙ hush-clock 16 p.engine
    by false q = ap (λ (b : Begun). b.player.engine.clock) (start-refused song p (eqb-false (opening_of song).number 0 q))

-- slot by slot
pub voices-stand : VoicesStand
unfolding stopped
voices-stand song p i = (by (eqb (opening_of song).number 0) refl, hushed-stands 16 p.engine i (lit≤ tt))
  where
    by : (b : Bool) → eqb (opening_of song).number 0 ≡ b → Stands (slot_at p.engine i) (slot_at (next_turn (Start song) p).engine i)
    by true q =
        let t = sym (opening-number song) ∙ eqb-true (opening_of song).number 0 q in
        let e = hushed_to 16 p.engine in
        subst (Stands (slot_at p.engine i)) (sym (ap (λ (x : Engine). slot_at x i) (started-engine song p t) ∙ freshened-slots 16 e i (lit≤ tt)))
        (hushed-stands 16 p.engine i (lit≤ tt))
    by false q =
        subst (λ (x : Player). Stands (slot_at p.engine i) (slot_at x.engine i))
        (sym (ap (λ (b : Begun). b.player) (start-refused song p (eqb-false (opening_of song).number 0 q))))
        (record { sounding = refl; channel = refl; key = refl; place = refl })

-- after any turns
turns-hushed : (ts : List Turn) → InClocks ts → AllReleased (hushed_to 16 (run_turns ts idle).engine)
turns-hushed ts k = subst (λ (e : Engine). AllReleased (hushed_to 16 e)) (sym (idle-run ts k).engine) (all-hushed (calls_turns ts idle))

pub start-releases : StartReleases
start-releases song ts k t =
    subst AllReleased (sym (started-engine song (run_turns ts idle) t)) (all-freshened (hushed_to 16 (run_turns ts idle).engine) (turns-hushed ts k))

pub stop-ends : StopEnds
unfolding stopped
stop-ends ts k = (turns-hushed ts k, refl)
