-- A turn of the player is its calls of the engine, and so is a run of turns.
use Prim.Native.Nat.{ℕ, zero, suc, ◌+◌, ◌*◌, ◌<◌, ◌≤◌}
use mathlib.Core.Bool.{Bool, true, false, cond}
use mathlib.Core.List.{List, [], ◌∷◌, ◌++◌, append-nil}
use mathlib.Core.Path.{◌≡◌, refl, sym, ap, ap₂, ◌∙◌, subst}
use native.Mathlib.Omega.{arith}
use native.Mathlib.Nat.{add-zero}
use borrow.Author.Tests.{eqb-true, eqb-false, eq-eqb, ne_eqb}
use lib.Dec.{eqb, lit<}
use lib.IntN.{ℤ}
use lib.Ieee.{Float}
use lib.ListN.{length, take, drop, length-append}
use lib.Seq.{take_at}
use Rattle.smf.specs.Songs.{opening_of, handed_of}
use Rattle.state.specs.Answers.{Answered}
use Rattle.state.specs.declared.Engine.{Engine}
use Rattle.state.specs.Quiet.{fresh}
use Rattle.engine.specs.Rendering.{distance, render_number, render, played}
use Rattle.player.specs.declared.Answer.{Answer}
use Rattle.player.specs.declared.Begun.{Begun}
use Rattle.player.specs.declared.Player.{Player}
use Rattle.player.specs.declared.Stepped.{Stepped}
use Rattle.player.specs.declared.Tally.{Tally}
use Rattle.player.specs.Cues.{song_over, coming_event, idle, cued}
use Rattle.player.specs.Pauses.{hushed_to, readied, started, stopped}
use Rattle.player.specs.Acting.{heeded}
use Rattle.player.specs.Playing.{opened, forward, applying, prepared, performed, numbers, reported, answered, sounded_into}
use Rattle.player.specs.Stepping.{step_taken}
use Rattle.promises.specs.Calls.{Call, does, next, run, frames_run}
use Rattle.promises.specs.Cuts.{numbers_of}
use Rattle.promises.proofs.EachSlot.{either}
use Rattle.promises.proofs.Demand1.{render-numbers}
use Rattle.promises.proofs.Demand3.{between-always}
use Rattle.promises.proofs.Output.{out-length}
use Rattle.recitals.specs.Turns.{Turn, Start, Stop, Play, Step, Direct, next_turn, frames_of_turn, numbers_of_turn, hush_calls, fresh_calls, call_of, frame_calls, calls_of, OwnDone, IsCalls, PlayerIsEngine, run_turns, numbers_turns, frames_turns, calls_turns, InClock, InClocks, IsRun, RunIsRun, PlayerKeepsPromises, PlaceInPlayer}
use Rattle.recitals.proofs.Clocks.{on-clock, off-clock, control-clock, program-clock, bend-clock, Clear, clear_of}
use Rattle.recitals.proofs.Acts.{Leads, no-calls, joined, relead, run-append, numbers-append, frames-append, hushes, freshens, hush-clock, freshen-clock, cued-engine, applying-acts, frames-go}
use Rattle.promises.specs.Calls as Calls

-- ---- start

-- a song that is not refused
pub start-done : (song : List ℕ) (p : Player) → (opening_of song).number ≡ 0
    → started song p ≡ record { number = 0; place = 0; player = cued (readied p) (handed_of song (opening_of song).cursor) }
unfolding started
start-done song p h = rw (eq-eqb (opening_of song).number 0 h) refl

-- and one that is
pub start-refused : (song : List ℕ) (p : Player) → ((opening_of song).number ≡ 0 → ⊥)
    → started song p ≡ record { number = (opening_of song).number; place = (opening_of song).place; player = p }
unfolding started
start-refused song p h = rw (ne_eqb (opening_of song).number 0 h) refl

-- its calls, either way
pub start-leads : (song : List ℕ) (p : Player) → Leads p.engine (calls_of (Start song) p) (next_turn (Start song) p).engine (numbers_of_turn (Start song) p) (frames_of_turn (Start song) p)
start-leads song p = by (eqb (opening_of song).number 0) refl
  where
    by : (b : Bool) → eqb (opening_of song).number 0 ≡ b → Leads p.engine (calls_of (Start song) p) (next_turn (Start song) p).engine (numbers_of_turn (Start song) p) (frames_of_turn (Start song) p)
    by true q =
        let d = start-done song p (eqb-true (opening_of song).number 0 q) in
        relead (joined (hushes 16 p.engine) (freshens 16 (hushed_to 16 p.engine)))
        (ap (λ (b : Begun). cond (eqb b.number 0) (hush_calls 16 ++ fresh_calls 16) []) d)
        (ap (λ (b : Begun). b.player.engine) d ∙ cued-engine (readied p) (handed_of song (opening_of song).cursor)) refl refl
    by false q =
        let d = start-refused song p (eqb-false (opening_of song).number 0 q) in
        relead (no-calls p.engine)
        (ap (λ (b : Begun). cond (eqb b.number 0) (hush_calls 16 ++ fresh_calls 16) []) d ∙ ap (λ (b : Bool). cond b (hush_calls 16 ++ fresh_calls 16) []) q)
        (ap (λ (b : Begun). b.player.engine) d) refl refl

-- ---- render

module _ (song bank : List ℕ) (ram rom : List ℤ) where
  -- a render that is done
  pub play-done : (to room : ℕ) (p : Player) → render_number to ram rom room p.engine ≡ 0
      → answered song bank ram rom to room p ≡ reported (performed song bank ram rom (distance p.engine to) (opened p))
  unfolding answered
  play-done to room p h = rw (eq-eqb (render_number to ram rom room p.engine) 0 h) refl

  -- and one that is refused
  pub play-refused : (to room : ℕ) (p : Player) → (render_number to ram rom room p.engine ≡ 0 → ⊥)
      → answered song bank ram rom to room p ≡ record { number = render_number to ram rom room p.engine; applied = 0; refused = 0; player = p }
  unfolding answered
  play-refused to room p h = rw (ne_eqb (render_number to ram rom room p.engine) 0 h) refl

  -- its number is the engine's
  pub play-number : (to room : ℕ) (p : Player) → (answered song bank ram rom to room p).number ≡ render_number to ram rom room p.engine
  play-number to room p = by (eqb (render_number to ram rom room p.engine) 0) refl
    where
      by : (b : Bool) → eqb (render_number to ram rom room p.engine) 0 ≡ b → (answered song bank ram rom to room p).number ≡ render_number to ram rom room p.engine
      by true q = let z = eqb-true (render_number to ram rom room p.engine) 0 q in ap (λ (a : Answer). a.number) (play-done to room p z) ∙ sym z
      by false q = ap (λ (a : Answer). a.number) (play-refused to room p (eqb-false (render_number to ram rom room p.engine) 0 q))

  -- so is that of the engine's own call
  pub render-number : (to : ℕ) (out : List Float) (e : Engine) → (does (Calls.Render to ram rom out) e).status ≡ render_number to ram rom (length out) e
  unfolding render
  render-number to out e = by (eqb (render_number to ram rom (length out) e) 0) refl
    where
      by : (b : Bool) → eqb (render_number to ram rom (length out) e) 0 ≡ b → (render to ram rom (length out) e).status ≡ render_number to ram rom (length out) e
      by true q = let z = eqb-true (render_number to ram rom (length out) e) 0 q in rw q (sym z)
      by false q = rw q refl

  -- where it is done no window ends past its memory
  pub done-clear : (to : ℕ) (out : List Float) (e : Engine) → render_number to ram rom (length out) e ≡ 0 → Clear ram rom e
  done-clear to out e h = clear_of ram rom e ((render-numbers to ram rom out e).done.0 (render-number to out e ∙ h)).2

  -- its output
  pub sounded-done : (to : ℕ) (out : List Float) (p : Player) → render_number to ram rom (length out) p.engine ≡ 0
      → sounded_into song bank ram rom to out p ≡ numbers song bank ram rom (distance p.engine to) (opened p) ++ drop (2 * distance p.engine to) out
  unfolding sounded_into
  sounded-done to out p h = rw (eq-eqb (render_number to ram rom (length out) p.engine) 0 h) refl

  -- two numbers for each frame
  pub numbers-length : (n : ℕ) (x : Tally) → length (numbers song bank ram rom n x) ≡ 2 * n
  unfolding numbers
  numbers-length zero x = refl
  numbers-length (suc n) x =
      let y = prepared song bank ram rom x in
      simp length-append (omega (arith, out-length ram rom y.player.engine 1, numbers-length n (forward ram rom 1 y)))

  -- the frames and numbers of a done render
  pub play-frames : (to : ℕ) (out : List Float) (p : Player) → render_number to ram rom (length out) p.engine ≡ 0 → frames_of_turn (Play song bank ram rom to out) p ≡ distance p.engine to
  play-frames to out p h = ap (λ (n : ℕ). cond (eqb n 0) (distance p.engine to) 0) (play-number to (length out) p ∙ h)

  pub play-numbers : (to : ℕ) (out : List Float) (p : Player) → render_number to ram rom (length out) p.engine ≡ 0
      → numbers_of_turn (Play song bank ram rom to out) p ≡ numbers song bank ram rom (distance p.engine to) (opened p)
  play-numbers to out p h =
      let n = distance p.engine to in
      let os = numbers song bank ram rom n (opened p) in
      ap₂ (λ (m : ℕ) (l : List Float). take (2 * m) l) (play-frames to out p h) (sounded-done to out p h) ∙ take_at os (drop (2 * n) out) (2 * n) (numbers-length n (opened p))

  pub play-leads : (to : ℕ) (out : List Float) (p : Player) → p.engine.clock < 4294967296
      → Leads p.engine (calls_of (Play song bank ram rom to out) p) (next_turn (Play song bank ram rom to out) p).engine (numbers_of_turn (Play song bank ram rom to out) p) (frames_of_turn (Play song bank ram rom to out) p)
  play-leads to out p h = by (eqb (render_number to ram rom (length out) p.engine) 0) refl
    where
      x : Turn
      x = Play song bank ram rom to out

      n : ℕ
      n = distance p.engine to

      number : (answered song bank ram rom to (length out) p).number ≡ render_number to ram rom (length out) p.engine
      number = play-number to (length out) p

      by : (b : Bool) → eqb (render_number to ram rom (length out) p.engine) 0 ≡ b → Leads p.engine (calls_of x p) (next_turn x p).engine (numbers_of_turn x p) (frames_of_turn x p)
      by true q =
          let z = eqb-true (render_number to ram rom (length out) p.engine) 0 q in
          relead (frames-go ram rom song bank n (opened p) h (done-clear to out p.engine z)).leads
          (ap (λ (m : ℕ). cond (eqb m 0) (frame_calls song bank ram rom n (opened p)) []) (number ∙ z))
          (ap (λ (a : Answer). a.player.engine) (play-done to (length out) p z)) (play-numbers to out p z) (play-frames to out p z)
      by false q =
          let z = eqb-false (render_number to ram rom (length out) p.engine) 0 q in
          let f : frames_of_turn x p ≡ 0 = ap (λ (m : ℕ). cond (eqb m 0) n 0) number ∙ ap (λ (b : Bool). cond b n 0) q in
          relead (no-calls p.engine)
          (ap (λ (m : ℕ). cond (eqb m 0) (frame_calls song bank ram rom n (opened p)) []) number ∙ ap (λ (b : Bool). cond b (frame_calls song bank ram rom n (opened p)) []) q)
          (ap (λ (a : Answer). a.player.engine) (play-refused to (length out) p z)) (ap (λ (m : ℕ). take (2 * m) (sounded_into song bank ram rom to out p)) f) f

  -- ---- step

  -- where no event is left
  pub step-none : (p : Player) → song_over p ≡ true → step_taken song bank ram rom p ≡ record { number = 0; applied = 0; player = p }
  unfolding step_taken
  step-none p e = rw e refl

  -- and where one is
  pub step-one : (p : Player) → song_over p ≡ false
      → step_taken song bank ram rom p
      ≡ record { number = (heeded bank ram rom (coming_event p) p.engine).status; applied = 1; player = (applying song bank ram rom (opened p)).player }
  unfolding step_taken
  step-one p e = rw e refl

  -- its call, and the engine behind it
  pub step-leads : (p : Player)
      → Leads p.engine (calls_of (Step song bank ram rom) p) (next_turn (Step song bank ram rom) p).engine (numbers_of_turn (Step song bank ram rom) p) (frames_of_turn (Step song bank ram rom) p)
  step-leads p = by (song_over p) refl
    where
      x : Turn
      x = Step song bank ram rom

      by : (b : Bool) → song_over p ≡ b → Leads p.engine (calls_of x p) (next_turn x p).engine (numbers_of_turn x p) (frames_of_turn x p)
      by true e =
          relead (no-calls p.engine) (ap (λ (b : Bool). cond b [] (call_of bank ram rom (coming_event p))) e)
          (ap (λ (s : Stepped). s.player.engine) (step-none p e)) refl refl
      by false e =
          relead (applying-acts ram rom song bank (opened p)).leads (ap (λ (b : Bool). cond b [] (call_of bank ram rom (coming_event p))) e)
          (ap (λ (s : Stepped). s.player.engine) (step-one p e)) refl refl

  -- the clock stands
  pub step-clock : (p : Player) → (next_turn (Step song bank ram rom) p).engine.clock ≡ p.engine.clock
  step-clock p = by (song_over p) refl
    where
      by : (b : Bool) → song_over p ≡ b → (step_taken song bank ram rom p).player.engine.clock ≡ p.engine.clock
      by true e = ap (λ (s : Stepped). s.player.engine.clock) (step-none p e)
      by false e = ap (λ (s : Stepped). s.player.engine.clock) (step-one p e) ∙ (applying-acts ram rom song bank (opened p)).clock

-- ---- every turn

is-calls : (x : Turn) (p : Player) → Leads p.engine (calls_of x p) (next_turn x p).engine (numbers_of_turn x p) (frames_of_turn x p) → OwnDone x p → IsCalls x p
is-calls x p l o = record { engine = l.state; numbers = l.numbers; frames = l.frames; renders = o }

pub turn-is-calls : PlayerIsEngine
unfolding stopped run numbers_of frames_run
turn-is-calls (Start song) p h = is-calls (Start song) p (start-leads song p) (start-leads song p).renders
turn-is-calls Stop p h = is-calls Stop p (hushes 16 p.engine) (hushes 16 p.engine).renders
turn-is-calls (Play song bank ram rom to out) p h =
    is-calls (Play song bank ram rom to out) p (play-leads song bank ram rom to out p h) (play-leads song bank ram rom to out p h).renders
turn-is-calls (Step song bank ram rom) p h =
    is-calls (Step song bank ram rom) p (step-leads song bank ram rom p) (step-leads song bank ram rom p).renders
turn-is-calls (Direct x) p h = record { engine = refl; numbers = sym (append-nil _); frames = sym (add-zero _); renders = tt }

-- ---- runs

-- a call whose clock value has 32 bits leaves a clock of 32 bits
call-clock : (x : Call) (e : Engine) → e.clock < 4294967296 → InClock x → (next x e).clock < 4294967296
unfolding render played
call-clock (Calls.NoteOn b ram rom c n v) e h k = rw (on-clock e.clock b ram rom c n v e refl) h
call-clock (Calls.NoteOff c n) e h k = rw (off-clock e.clock c n e refl) h
call-clock (Calls.Control c n v) e h k = rw (control-clock e.clock c n v e refl) h
call-clock (Calls.Program c n) e h k = rw (program-clock e.clock c n e refl) h
call-clock (Calls.Bend c n) e h k = rw (bend-clock e.clock c n e refl) h
call-clock (Calls.Render to ram rom out) e h k = either (λ (a : Answered). a.engine.clock < 4294967296) (eqb (render_number to ram rom (length out) e) 0) _ _ k h
call-clock (Calls.Ask i) e h k = h

-- the clock stays within 32 bits
turn-clock : (x : Turn) (xs : List Turn) (p : Player) → p.engine.clock < 4294967296 → InClocks (x ∷ xs) → ((next_turn x p).engine.clock < 4294967296) × InClocks xs
unfolding stopped
turn-clock (Start song) xs p h k = (by (eqb (opening_of song).number 0) refl, k)
  where
    by : (b : Bool) → eqb (opening_of song).number 0 ≡ b → (started song p).player.engine.clock < 4294967296
    by true q =
        let e = hushed_to 16 p.engine in
        rw (start-done song p (eqb-true (opening_of song).number 0 q), cued-engine (readied p) (handed_of song (opening_of song).cursor), freshen-clock 16 e, hush-clock 16 p.engine) h
    by false q = rw (start-refused song p (eqb-false (opening_of song).number 0 q)) h
turn-clock Stop xs p h k = (rw (hush-clock 16 p.engine) h, k)
turn-clock (Play song bank ram rom to out) xs p h k = (by (eqb number 0) refl, k)
  where
    number : ℕ
    number = render_number to ram rom (length out) p.engine

    by : (b : Bool) → eqb number 0 ≡ b → (answered song bank ram rom to (length out) p).player.engine.clock < 4294967296
    by true q =
        let z = eqb-true number 0 q in
        let g = (frames-go ram rom song bank (distance p.engine to) (opened p) h (done-clear song bank ram rom to out p.engine z)).clock in
        rw (play-done song bank ram rom to (length out) p z) (omega (arith, g))
    by false q = rw (play-refused song bank ram rom to (length out) p (eqb-false number 0 q)) h
turn-clock (Step song bank ram rom) xs p h k = (rw (step-clock song bank ram rom p) h, k)
turn-clock (Direct x) xs p h k = (call-clock x p.engine h k.0, k.1)

pub turns-clock : (xs : List Turn) (p : Player) → p.engine.clock < 4294967296 → InClocks xs → (run_turns xs p).engine.clock < 4294967296
unfolding run_turns
turns-clock [] p h k = h
turns-clock (x ∷ xs) p h k = let c = turn-clock x xs p h k in turns-clock xs (next_turn x p) c.0 c.1

pub run-is-run : RunIsRun
unfolding run_turns numbers_turns frames_turns calls_turns run numbers_of frames_run
run-is-run [] p h k = record { engine = refl; numbers = refl; frames = refl }
run-is-run (x ∷ xs) p h k =
    let a = turn-is-calls x p h in
    let c = turn-clock x xs p h k in
    let b = run-is-run xs (next_turn x p) c.0 c.1 in
    record {
      engine = b.engine ∙ ap (run (calls_turns xs (next_turn x p))) a.engine ∙ sym (run-append (calls_of x p) (calls_turns xs (next_turn x p)) p.engine);
      numbers =
          ap₂ (λ (k l : List Float). k ++ l) a.numbers (b.numbers ∙ ap (numbers_of (calls_turns xs (next_turn x p))) a.engine)
          ∙ sym (numbers-append (calls_of x p) (calls_turns xs (next_turn x p)) p.engine);
      frames =
          ap₂ (λ (k l : ℕ). k + l) a.frames (b.frames ∙ ap (frames_run (calls_turns xs (next_turn x p))) a.engine)
          ∙ sym (frames-append (calls_of x p) (calls_turns xs (next_turn x p)) p.engine);
    }

-- from the fresh player
pub idle-run : (ts : List Turn) → InClocks ts → IsRun ts idle
unfolding fresh
idle-run ts k = run-is-run ts idle (lit< tt) k

pub keeps-promises : PlayerKeepsPromises
keeps-promises P h ts k =
    let r = idle-run ts k in
    subst (λ (e : Engine). P e (numbers_turns ts idle) (frames_turns ts idle)) (sym r.engine)
    (subst (λ (os : List Float). P (run (calls_turns ts idle) fresh) os (frames_turns ts idle)) (sym r.numbers)
    (subst (λ (n : ℕ). P (run (calls_turns ts idle) fresh) (numbers_of (calls_turns ts idle) fresh) n) (sym r.frames) (h (calls_turns ts idle))))

pub place-in-player : PlaceInPlayer
place-in-player ts i a b c k l n on h s m =
    between-always (calls_turns ts idle) i a b c l (subst (λ (f : ℕ). b ≤ f) (idle-run ts k).frames n) on h s m
