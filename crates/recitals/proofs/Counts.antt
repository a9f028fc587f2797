-- The events that a render counts as refused are those of its calls that the engine refuses.
use mathlib.Core.Bool.{Bool, true, false, cond}
use mathlib.Core.List.{List, [], ◌∷◌, ◌++◌}
use mathlib.Core.Path.{◌≡◌, refl, sym, ap, ◌∙◌}
use Prim.Native.Nat.{ℕ, zero, suc, ◌+◌, ◌<◌}
use native.Mathlib.Omega.{arith}
use lib.Dec.{eqb}
use borrow.Author.Tests.{eqb-true, eqb-false}
use lib.IntN.{ℤ}
use lib.ListN.{length}
use Rattle.smf.specs.declared.Event.{Event}
use Rattle.smf.specs.Songs.{turns}
use Rattle.state.specs.Answers.{Answered}
use Rattle.state.specs.declared.Engine.{Engine}
use Rattle.engine.specs.Rendering.{distance, render_number}
use Rattle.player.specs.declared.Answer.{Answer}
use Rattle.player.specs.declared.Stepped.{Stepped}
use Rattle.player.specs.declared.Tally.{Tally}
use Rattle.state.specs.Answers.{done}
use Rattle.events.specs.Keys.{note_off}
use Rattle.events.specs.Striking.{note_on, bank_from}
use Rattle.events.specs.Controls.{control_change}
use Rattle.events.specs.Programs.{program_change}
use Rattle.events.specs.Bends.{pitch_bend}
use Rattle.player.specs.Acting.{kind_of, channel_in, bend_in, heeded, heeded_as}
use Rattle.player.specs.Cues.{song_over, coming_event, is_due}
use Rattle.player.specs.Playing.{opened, answered, refusal, forward, applying, caught_up, prepared, performed}
use Rattle.promises.specs.Calls.{Call, NoteOn, NoteOff, Control, Program, Bend, does, next, run}
use Rattle.promises.specs.Cuts.{ahead}
use Rattle.recitals.specs.Turns.{Play, Step, call_of, one_frame, due_calls, frame_calls, calls_of, refused_in}
use Rattle.recitals.specs.Counts.{refused_calls, RefusedAreCounted, RefusedStepIsCounted}
use Rattle.recitals.proofs.Clocks.{Clear}
use Rattle.recitals.proofs.Turns.{done-clear, play-number, play-done, play-refused, step-none, step-one}
use Rattle.recitals.proofs.Acts.{applying-acts, caught-acts, frame-leads, frame-clear, frame-clock}

-- calls one behind the other
refused-append : (xs ys : List Call) (e : Engine) → refused_calls (xs ++ ys) e ≡ refused_calls xs e + refused_calls ys (run xs e)
unfolding refused_calls run
refused-append [] ys e = omega arith
refused-append (x ∷ xs) ys e = omega (arith, refused-append xs ys (next x e))

-- one of two, by one test
pick : (e : Engine) (t : Bool) (a b : Answered) (x y : List Call) → refused_calls x e ≡ refusal a.status → refused_calls y e ≡ refusal b.status
    → refused_calls (cond t x y) e ≡ refusal (cond t a b).status
pick e true a b x y h k = h
pick e false a b x y h k = k

-- one call
one : (x : Call) (e : Engine) → refused_calls (x ∷ []) e ≡ refusal (does x e).status
unfolding refused_calls
one x e = omega arith

module _ (ram rom : List ℤ) where
  -- the call of an event
  event-refused : (bank : List ℕ) (v : Event) (e : Engine) → refused_calls (call_of bank ram rom v) e ≡ refusal (heeded bank ram rom v e).status
  unfolding heeded_as call_of refused_calls
  event-refused bank v e =
      let c = channel_in v in
      pick e (eqb (kind_of v) 8) (note_off c v.first e) _ (NoteOff c v.first ∷ []) _ (one (NoteOff c v.first) e)
      (pick e (eqb (kind_of v) 9) (note_on (bank_from bank) ram rom c v.first v.second e) _ (NoteOn bank ram rom c v.first v.second ∷ []) _
      (one (NoteOn bank ram rom c v.first v.second) e)
      (pick e (eqb (kind_of v) 11) (control_change c v.first v.second e) _ (Control c v.first v.second ∷ []) _ (one (Control c v.first v.second) e)
      (pick e (eqb (kind_of v) 12) (program_change c v.first e) _ (Program c v.first ∷ []) _ (one (Program c v.first) e)
      (pick e (eqb (kind_of v) 14) (pitch_bend c (bend_in v) e) (done 0 e) (Bend c (bend_in v) ∷ []) [] (one (Bend c (bend_in v)) e) refl))))

  module _ (song bank : List ℕ) where
    -- one event applied
    applied-refused : (x : Tally) → (applying song bank ram rom x).refused ≡ x.refused + refused_calls (call_of bank ram rom (coming_event x.player)) x.player.engine
    unfolding applying
    applied-refused x = ap (λ (n : ℕ). x.refused + n) (sym (event-refused bank (coming_event x.player) x.player.engine))

    -- all that are due
    caught-refused : (n : ℕ) (x : Tally) → (caught_up song bank ram rom n x).refused ≡ x.refused + refused_calls (due_calls song bank ram rom n x) x.player.engine
    unfolding caught_up due_calls refused_calls
    caught-refused zero x = omega arith
    caught-refused (suc n) x = by (is_due x.player) (caught-refused n (applying song bank ram rom x))
      where
        by : (b : Bool)
            → (caught_up song bank ram rom n (applying song bank ram rom x)).refused
            ≡ (applying song bank ram rom x).refused + refused_calls (due_calls song bank ram rom n (applying song bank ram rom x)) (applying song bank ram rom x).player.engine
            → (cond b (caught_up song bank ram rom n (applying song bank ram rom x)) x).refused
            ≡ x.refused + refused_calls (cond b (call_of bank ram rom (coming_event x.player) ++ due_calls song bank ram rom n (applying song bank ram rom x)) []) x.player.engine
        by true h =
            let cs = call_of bank ram rom (coming_event x.player) in
            let ds = due_calls song bank ram rom n (applying song bank ram rom x) in
            let s = ap (refused_calls ds) (applying-acts ram rom song bank x).leads.state in
            omega (arith, h, applied-refused x, s, refused-append cs ds x.player.engine)
        by false h = omega arith

    -- n frames
    frames-refused : (n : ℕ) (x : Tally) → x.player.engine.clock < 4294967296 → Clear ram rom x.player.engine
        → (performed song bank ram rom n x).refused ≡ x.refused + refused_calls (frame_calls song bank ram rom n x) x.player.engine
    unfolding performed frame_calls refused_calls forward run
    frames-refused zero x h c = omega arith
    frames-refused (suc n) x h c =
        let q = caught-acts ram rom song bank (turns song) x in
        let y = prepared song bank ram rom x in
        let e = y.player.engine in
        let k : e.clock < 4294967296 = rw q.clock h in
        let f = frame-leads ram rom e k (q.clear c) in
        let first = due_calls song bank ram rom (turns song) x in
        let frame = one_frame ram rom (ahead e 1) in
        let rest = frame_calls song bank ram rom n (forward ram rom 1 y) in
        let a = refused-append first (frame ∷ rest) x.player.engine in
        let b = ap (refused_calls (frame ∷ rest)) q.leads.state in
        let ok : refusal (does frame e).status ≡ 0 = ap refusal f.renders.0 in
        let s = ap (refused_calls rest) f.state in
        let r = frames-refused n (forward ram rom 1 y) (omega (arith, frame-clock ram rom e)) (frame-clear ram rom e k (q.clear c)) in
        omega (arith, a, b, ok, s, r, caught-refused (turns song) x)

-- a render
pub refused-counted : RefusedAreCounted
unfolding refused_calls
refused-counted song bank ram rom to out p h = by (eqb (render_number to ram rom (length out) p.engine) 0) refl
  where
    n : ℕ
    n = distance p.engine to

    number : (answered song bank ram rom to (length out) p).number ≡ render_number to ram rom (length out) p.engine
    number = play-number song bank ram rom to (length out) p

    calls : ℕ → List Call
    calls m = cond (eqb m 0) (frame_calls song bank ram rom n (opened p)) []

    by : (b : Bool) → eqb (render_number to ram rom (length out) p.engine) 0 ≡ b
        → refused_in (Play song bank ram rom to out) p ≡ refused_calls (calls_of (Play song bank ram rom to out) p) p.engine
    by true q =
        let z = eqb-true (render_number to ram rom (length out) p.engine) 0 q in
        let c = ap (λ (m : ℕ). refused_calls (calls m) p.engine) (number ∙ z) in
        let d = ap (λ (a : Answer). a.refused) (play-done song bank ram rom to (length out) p z) in
        let f = frames-refused ram rom song bank n (opened p) h (done-clear song bank ram rom to out p.engine z) in
        omega (arith, c, d, f)
    by false q =
        let z = eqb-false (render_number to ram rom (length out) p.engine) 0 q in
        let d = ap (λ (a : Answer). a.refused) (play-refused song bank ram rom to (length out) p z) in
        let c = ap (λ (m : ℕ). refused_calls (calls m) p.engine) number ∙ ap (λ (b : Bool). refused_calls (cond b (frame_calls song bank ram rom n (opened p)) []) p.engine) q in
        omega (arith, c, d)

-- a step
pub refused-step-counted : RefusedStepIsCounted
unfolding refused_calls
refused-step-counted song bank ram rom p = by (song_over p) refl
  where
    calls : Bool → List Call
    calls b = cond b [] (call_of bank ram rom (coming_event p))

    by : (b : Bool) → song_over p ≡ b → refused_in (Step song bank ram rom) p ≡ refused_calls (calls_of (Step song bank ram rom) p) p.engine
    by true e =
        ap (λ (x : Stepped). refusal x.number) (step-none song bank ram rom p e) ∙ sym (ap (λ (b : Bool). refused_calls (calls b) p.engine) e)
    by false e =
        ap (λ (x : Stepped). refusal x.number) (step-one song bank ram rom p e)
        ∙ sym (event-refused ram rom bank (coming_event p) p.engine) ∙ sym (ap (λ (b : Bool). refused_calls (calls b) p.engine) e)
