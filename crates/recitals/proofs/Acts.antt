-- What the player does to its engine, call by call: events, frames, and the channels let go and set.
use Rattle.std.proofs.Common.{Option, Some, None}
use Prim.Native.Nat.{ℕ, zero, suc, ◌+◌, ◌*◌, ◌%◌, ◌<◌}
use mathlib.Core.Bool.{Bool, true, false, cond}
use mathlib.Core.List.{List, [], ◌∷◌, ◌++◌, append_assoc, append-nil}
use mathlib.Core.Path.{◌≡◌, refl, sym, ap, ap₂, ◌∙◌, subst}
use native.Mathlib.Omega.{arith}
use lib.Dec.{eqb}
use lib.IntN.{ℤ}
use lib.Ieee.{Float, nan}
use lib.ListN.{take}
use Rattle.smf.specs.declared.Event.{Event}
use Rattle.smf.specs.declared.Handed.{Handed}
use Rattle.smf.specs.Songs.{turns, handed_of}
use Rattle.state.specs.Answers.{Answered}
use Rattle.state.specs.declared.Engine.{Engine}
use Rattle.state.specs.Slots.{with_clock}
use Rattle.engine.specs.Rendering.{distance, output, played}
use Rattle.player.specs.declared.Player.{Player}
use Rattle.player.specs.declared.Tally.{Tally}
use Rattle.player.specs.Acting.{heeded_as, heeded, kind_of}
use Rattle.player.specs.Cues.{coming_event, with_engine, coming, cued, is_due}
use Rattle.player.specs.Pauses.{hushed, hushed_to, freshened, freshened_to}
use Rattle.player.specs.Playing.{ticked, forward, applying, caught_up, prepared, performed, numbers}
use Rattle.promises.specs.Calls.{Call, does, next, run, written, frames_of, frames_run}
use Rattle.promises.specs.Cuts.{ahead, numbers_of}
use Rattle.promises.proofs.Cuts.{done-frames, done-numbers}
use Rattle.promises.proofs.Demand1.{render-numbers}
use Rattle.promises.proofs.Output.{done-state}
use Rattle.recitals.specs.Turns.{hush_calls, fresh_calls, call_of, one_frame, due_calls, frame_calls, RendersDone}
use Rattle.recitals.proofs.Clocks.{on-clock, off-clock, control-clock, program-clock, bend-clock, Clear, of-clear, clear-call, on-clear}
use Rattle.promises.specs.Calls as Calls

-- ---- calls one behind the other

pub run-append : (xs ys : List Call) (e : Engine) → run (xs ++ ys) e ≡ run ys (run xs e)
unfolding run
run-append [] ys e = refl
run-append (x ∷ xs) ys e = run-append xs ys (next x e)

pub numbers-append : (xs ys : List Call) (e : Engine) → numbers_of (xs ++ ys) e ≡ numbers_of xs e ++ numbers_of ys (run xs e)
unfolding numbers_of run
numbers-append [] ys e = refl
numbers-append (x ∷ xs) ys e =
    let os = take (2 * frames_of x e) (written x e) in
    ap (λ (l : List Float). os ++ l) (numbers-append xs ys (next x e)) ∙ sym (append_assoc os (numbers_of xs (next x e)) (numbers_of ys (run xs (next x e))))

pub frames-append : (xs ys : List Call) (e : Engine) → frames_run (xs ++ ys) e ≡ frames_run xs e + frames_run ys (run xs e)
unfolding frames_run run
frames-append [] ys e = omega arith
frames-append (x ∷ xs) ys e = omega (arith, frames-append xs ys (next x e))

renders-append : (xs ys : List Call) (e : Engine) → RendersDone xs e → RendersDone ys (run xs e) → RendersDone (xs ++ ys) e
unfolding run
renders-append [] ys e h k = k
renders-append (Calls.NoteOn b ram rom c n v ∷ xs) ys e h k = renders-append xs ys _ h k
renders-append (Calls.NoteOff c n ∷ xs) ys e h k = renders-append xs ys _ h k
renders-append (Calls.Control c n v ∷ xs) ys e h k = renders-append xs ys _ h k
renders-append (Calls.Program c p ∷ xs) ys e h k = renders-append xs ys _ h k
renders-append (Calls.Bend c b ∷ xs) ys e h k = renders-append xs ys _ h k
renders-append (Calls.Render to ram rom out ∷ xs) ys e h k = (h.0, renders-append xs ys _ h.1 k)
renders-append (Calls.Ask i ∷ xs) ys e h k = renders-append xs ys _ h k

-- calls cs lead from e to y, and render the numbers os in f frames; none of their renders is refused
pub record Leads (e : Engine) (cs : List Call) (y : Engine) (os : List Float) (f : ℕ) : Type 0 where
  pub state : y ≡ run cs e
  pub numbers : os ≡ numbers_of cs e
  pub frames : f ≡ frames_run cs e
  pub renders : RendersDone cs e

pub no-calls : (e : Engine) → Leads e [] e [] 0
unfolding run numbers_of frames_run
no-calls e = record { state = refl; numbers = refl; frames = refl; renders = tt }

pub joined : {e y z : Engine} {cs ds : List Call} {os qs : List Float} {f g : ℕ} → Leads e cs y os f → Leads y ds z qs g
    → Leads e (cs ++ ds) z (os ++ qs) (f + g)
joined {e} {y} {z} {cs} {ds} {os} {qs} {f} {g} a b =
    record {
      state = b.state ∙ ap (run ds) a.state ∙ sym (run-append cs ds e);
      numbers = ap₂ (λ (k l : List Float). k ++ l) a.numbers (b.numbers ∙ ap (numbers_of ds) a.state) ∙ sym (numbers-append cs ds e);
      frames = ap₂ (λ (k l : ℕ). k + l) a.frames (b.frames ∙ ap (frames_run ds) a.state) ∙ sym (frames-append cs ds e);
      renders = renders-append cs ds e a.renders (subst (RendersDone ds) a.state b.renders);
    }

-- the same, said otherwise
pub relead : {e y z : Engine} {cs ds : List Call} {os qs : List Float} {f g : ℕ} → Leads e cs y os f → ds ≡ cs → z ≡ y → qs ≡ os → g ≡ f
    → Leads e ds z qs g
relead {e} {y} {z} {cs} {ds} l a b c d =
    record {
      state = b ∙ l.state ∙ ap (λ (xs : List Call). run xs e) (sym a);
      numbers = c ∙ l.numbers ∙ ap (λ (xs : List Call). numbers_of xs e) (sym a);
      frames = d ∙ l.frames ∙ ap (λ (xs : List Call). frames_run xs e) (sym a);
      renders = subst (λ (xs : List Call). RendersDone xs e) (sym a) l.renders;
    }

-- ---- channels

pub hushes : (n : ℕ) (e : Engine) → Leads e (hush_calls n) (hushed_to n e) [] 0
unfolding hush_calls hushed_to hushed run numbers_of frames_run
hushes zero e = no-calls e
hushes (suc n) e = joined (hushes n e) (record { state = refl; numbers = refl; frames = refl; renders = tt })

pub freshens : (n : ℕ) (e : Engine) → Leads e (fresh_calls n) (freshened_to n e) [] 0
unfolding fresh_calls freshened_to freshened run numbers_of frames_run
freshens zero e = no-calls e
freshens (suc n) e = joined (freshens n e) (record { state = refl; numbers = refl; frames = refl; renders = tt })

pub hush-clock : (n : ℕ) (e : Engine) → (hushed_to n e).clock ≡ e.clock
unfolding hushed_to hushed
hush-clock zero e = refl
hush-clock (suc n) e = control-clock e.clock n 123 0 _ (control-clock e.clock n 64 0 _ (hush-clock n e))

pub freshen-clock : (n : ℕ) (e : Engine) → (freshened_to n e).clock ≡ e.clock
unfolding freshened_to freshened
freshen-clock zero e = refl
freshen-clock (suc n) e =
    let t = e.clock in
    let y = freshened_to n e in
    let a = next (Calls.Control n 0 0) y in
    let b = next (Calls.Program n 0) a in
    let d = next (Calls.Bend n 8192) b in
    let f = next (Calls.Control n 7 100) d in
    control-clock t n 11 127 f (control-clock t n 7 100 d (bend-clock t n 8192 b (program-clock t n 0 a (control-clock t n 0 0 y (freshen-clock n e)))))

-- what comes next does not touch the engine
pub cued-engine : (p : Player) (h : Handed) → (cued p h).engine ≡ p.engine
cued-engine p h = by h.event
  where
    by : (o : Option Event) → (coming p h.cursor o).engine ≡ p.engine
    by None = refl
    by (Some v) = refl

module _ (ram rom : List ℤ) where
  -- calls that render nothing, keep the clock, and take no window past its memory
  pub record Acts (e : Engine) (cs : List Call) (y : Engine) : Type 0 where
    pub leads : Leads e cs y [] 0
    pub clock : y.clock ≡ e.clock
    pub clear : Clear ram rom e → Clear ram rom y

  pub no-act : (e : Engine) → Acts e [] e
  no-act e = record { leads = no-calls e; clock = refl; clear = λ h. h }

  both-act : {e y z : Engine} {cs ds : List Call} → Acts e cs y → Acts y ds z → Acts e (cs ++ ds) z
  both-act a b = record { leads = joined a.leads b.leads; clock = b.clock ∙ a.clock; clear = λ h. b.clear (a.clear h) }

  -- one of two, by one test
  pick : (e : Engine) (t : Bool) (a b : Answered) (x y : List Call) → Acts e x a.engine → Acts e y b.engine → Acts e (cond t x y) (cond t a b).engine
  pick e true a b x y h k = h
  pick e false a b x y h k = k

  -- an event
  pub event-acts : (bank : List ℕ) (v : Event) (e : Engine) → Acts e (call_of bank ram rom v) (heeded bank ram rom v e).engine
  unfolding heeded_as call_of run numbers_of frames_run
  event-acts bank v e =
      pick e (eqb (kind_of v) 8) _ _ _ _
      (record { leads = record { state = refl; numbers = refl; frames = refl; renders = tt }; clock = off-clock e.clock _ _ e refl; clear = clear-call ram rom (Calls.NoteOff _ _) e (λ u a. absurd a) })
      (pick e (eqb (kind_of v) 9) _ _ _ _
      (record { leads = record { state = refl; numbers = refl; frames = refl; renders = tt }; clock = on-clock e.clock bank ram rom _ _ _ e refl; clear = on-clear ram rom bank _ _ _ e })
      (pick e (eqb (kind_of v) 11) _ _ _ _
      (record { leads = record { state = refl; numbers = refl; frames = refl; renders = tt }; clock = control-clock e.clock _ _ _ e refl; clear = clear-call ram rom (Calls.Control _ _ _) e (λ u a. absurd a) })
      (pick e (eqb (kind_of v) 12) _ _ _ _
      (record { leads = record { state = refl; numbers = refl; frames = refl; renders = tt }; clock = program-clock e.clock _ _ e refl; clear = clear-call ram rom (Calls.Program _ _) e (λ u a. absurd a) })
      (pick e (eqb (kind_of v) 14) _ _ _ _
      (record { leads = record { state = refl; numbers = refl; frames = refl; renders = tt }; clock = bend-clock e.clock _ _ e refl; clear = clear-call ram rom (Calls.Bend _ _) e (λ u a. absurd a) })
      (no-act e)))))

  module _ (song bank : List ℕ) where
    -- one event applied
    pub applying-acts : (x : Tally) → Acts x.player.engine (call_of bank ram rom (coming_event x.player)) (applying song bank ram rom x).player.engine
    unfolding applying
    applying-acts x =
        let a = heeded bank ram rom (coming_event x.player) x.player.engine in
        subst (Acts x.player.engine (call_of bank ram rom (coming_event x.player)))
        (sym (cued-engine (with_engine x.player a.engine) (handed_of song x.player.cursor)))
        (event-acts bank (coming_event x.player) x.player.engine)

    -- all that are due
    pub caught-acts : (n : ℕ) (x : Tally) → Acts x.player.engine (due_calls song bank ram rom n x) (caught_up song bank ram rom n x).player.engine
    unfolding due_calls caught_up
    caught-acts zero x = no-act x.player.engine
    caught-acts (suc n) x = by (is_due x.player) (both-act (applying-acts x) (caught-acts n (applying song bank ram rom x)))
      where
        by : (b : Bool) → Acts x.player.engine (call_of bank ram rom (coming_event x.player) ++ due_calls song bank ram rom n (applying song bank ram rom x)) (caught_up song bank ram rom n (applying song bank ram rom x)).player.engine
            → Acts x.player.engine (cond b (call_of bank ram rom (coming_event x.player) ++ due_calls song bank ram rom n (applying song bank ram rom x)) []) (cond b (caught_up song bank ram rom n (applying song bank ram rom x)) x).player.engine
        by true h = h
        by false h = no-act x.player.engine

  -- ---- a frame

  -- one frame ahead
  one-ahead : (e : Engine) → e.clock < 4294967296 → distance e (ahead e 1) ≡ 1
  unfolding distance
  one-ahead e h = omega arith

  -- a render of one frame is done, and is the player's own
  pub frame-leads : (e : Engine) → e.clock < 4294967296 → Clear ram rom e → Leads e (one_frame ram rom (ahead e 1) ∷ []) (ticked ram rom 1 e) (output ram rom e 1) 1
  unfolding ticked run numbers_of frames_run
  frame-leads e h c =
      let x = one_frame ram rom (ahead e 1) in
      let d = one-ahead e h in
      let ok : (does x e).status ≡ 0 = (render-numbers (ahead e 1) ram rom (nan ∷ nan ∷ []) e).done.1 (omega arith, omega arith, of-clear ram rom e c) in
      let f : frames_of x e ≡ 1 = done-frames (ahead e 1) ram rom (nan ∷ nan ∷ []) e ok ∙ d in
      record {
        state = sym (done-state (ahead e 1) ram rom (nan ∷ nan ∷ []) e ok ∙ ap (λ (m : ℕ). with_clock (played ram rom m e) (ahead e 1)) d);
        numbers =
            sym (append-nil (take (2 * frames_of x e) (written x e))
            ∙ ap (λ (m : ℕ). take (2 * m) (written x e)) (f ∙ sym d)
            ∙ done-numbers (ahead e 1) ram rom (nan ∷ nan ∷ []) e ok ∙ ap (output ram rom e) d);
        frames = omega arith;
        renders = (ok, tt);
      }

  -- and it takes no window past its memory
  pub frame-clear : (e : Engine) → e.clock < 4294967296 → Clear ram rom e → Clear ram rom (ticked ram rom 1 e)
  unfolding run
  frame-clear e h c =
      subst (Clear ram rom) (sym (frame-leads e h c).state) (clear-call ram rom (one_frame ram rom (ahead e 1)) e (λ u a. absurd a) c)

  pub frame-clock : (e : Engine) → (ticked ram rom 1 e).clock ≡ (e.clock + 1) % 4294967296
  unfolding ticked
  frame-clock e = refl

  -- ---- frames

  -- the calls of n frames lead to the engine behind them, and no window is past its memory there
  pub record Goes (e : Engine) (cs : List Call) (y : Engine) (os : List Float) (n : ℕ) : Type 0 where
    pub leads : Leads e cs y os n
    pub clock : y.clock ≡ ahead e n
    pub clear : Clear ram rom y

  module _ (song bank : List ℕ) where
    pub frames-go : (n : ℕ) (x : Tally) → x.player.engine.clock < 4294967296 → Clear ram rom x.player.engine
        → Goes x.player.engine (frame_calls song bank ram rom n x) (performed song bank ram rom n x).player.engine (numbers song bank ram rom n x) n
    unfolding frame_calls performed numbers forward
    frames-go zero x h c = record { leads = no-calls x.player.engine; clock = omega arith; clear = c }
    frames-go (suc n) x h c =
        let q = caught-acts song bank (turns song) x in
        let y = prepared song bank ram rom x in
        let k : y.player.engine.clock < 4294967296 = rw q.clock h in
        let d = q.clear c in
        let f = frame-leads y.player.engine k d in
        let t = frame-clock y.player.engine in
        let r = frames-go n (forward ram rom 1 y) (omega (arith, t)) (frame-clear y.player.engine k d) in
        record { leads = relead (joined q.leads (joined f r.leads)) refl refl refl (omega arith); clock = clocked x.player.engine.clock y.player.engine.clock (ticked ram rom 1 y.player.engine).clock (performed song bank ram rom n (forward ram rom 1 y)).player.engine.clock n q.clock t r.clock; clear = r.clear }
      where
        clocked : (a b c z m : ℕ) → b ≡ a → c ≡ (b + 1) % 4294967296 → z ≡ (c + m) % 4294967296 → z ≡ (a + suc m) % 4294967296
        clocked a b c z m h k l = omega arith
