-- All calls of the player, a run of them, and the engine's calls that each of them is: so what holds of the engine holds of the player.
use Rattle.std.specs.Prelude.{ℕ, zero, suc, ◌+◌, ◌*◌, ◌<◌, ◌≤◌, ◌-◌, cond, true, List, [], ◌∷◌, ◌++◌, ◌≡◌, eqb, ℤ, Float, length, take}
use Rattle.std.specs.Float.{nan}
use Rattle.smf.specs.declared.Event.{Event}
use Rattle.smf.specs.Songs.{turns}
use Rattle.voice.specs.Stages.{past, released}
use Rattle.state.specs.declared.Engine.{Engine}
use Rattle.state.specs.Quiet.{fresh}
use Rattle.state.specs.Slots.{slot_at}
use Rattle.engine.specs.Rendering.{distance}
use Rattle.player.specs.declared.Player.{Player}
use Rattle.player.specs.declared.Tally.{Tally}
use Rattle.player.specs.Acting.{kind_of, channel_in, bend_in}
use Rattle.player.specs.Cues.{song_over, coming_event, idle, with_engine, is_due}
use Rattle.player.specs.Pauses.{started, stopped}
use Rattle.player.specs.Playing.{opened, refusal, forward, applying, prepared, answered, sounded_into}
use Rattle.player.specs.Stepping.{step_taken}
use Rattle.promises.specs.Calls.{Call, NoteOn, NoteOff, Control, Program, Bend, Render, Ask, does, next, run, written, voice_in, frames_of, frames_run}
use Rattle.promises.specs.Cuts.{ahead, numbers_of}
use Rattle.promises.specs.Moments.{in_front}
use Rattle.promises.specs.Demand3.{Stays, Moved}

-- ---- turns

-- a call of the player, with all that it is lent; a direct one is the engine's, on the player's engine
pub data Turn : Type 0 where
  Start : (song : List ℕ) → Turn
  Stop : Turn
  Play : (song bank : List ℕ) (ram rom : List ℤ) (to : ℕ) (out : List Float) → Turn
  Step : (song bank : List ℕ) (ram rom : List ℤ) → Turn
  Direct : (call : Call) → Turn

-- the player after a turn
abbrev pub next_turn : Turn → Player → Player
next_turn (Start song) p = (started song p).player
next_turn Stop p = stopped p
next_turn (Play song bank ram rom to out) p = (answered song bank ram rom to (length out) p).player
next_turn (Step song bank ram rom) p = (step_taken song bank ram rom p).player
next_turn (Direct x) p = with_engine p (next x p.engine)

-- what its lent output holds after it
abbrev pub written_in : Turn → Player → List Float
written_in (Start song) p = []
written_in Stop p = []
written_in (Play song bank ram rom to out) p = sounded_into song bank ram rom to out p
written_in (Step song bank ram rom) p = []
written_in (Direct x) p = written x p.engine

-- the frames that it renders: its distance, where it is done
abbrev pub frames_of_turn : Turn → Player → ℕ
frames_of_turn (Start song) p = 0
frames_of_turn Stop p = 0
frames_of_turn (Play song bank ram rom to out) p = cond (eqb (answered song bank ram rom to (length out) p).number 0) (distance p.engine to) 0
frames_of_turn (Step song bank ram rom) p = 0
frames_of_turn (Direct x) p = frames_of x p.engine

-- the numbers that it renders: the first two for each of its frames
abbrev pub numbers_of_turn : Turn → Player → List Float
numbers_of_turn x p = take (2 * frames_of_turn x p) (written_in x p)

-- how many events it applies
abbrev pub applied_in : Turn → Player → ℕ
applied_in (Start song) p = 0
applied_in Stop p = 0
applied_in (Play song bank ram rom to out) p = (answered song bank ram rom to (length out) p).applied
applied_in (Step song bank ram rom) p = (step_taken song bank ram rom p).applied
applied_in (Direct x) p = 0

-- and how many of these are refused
abbrev pub refused_in : Turn → Player → ℕ
refused_in (Start song) p = 0
refused_in Stop p = 0
refused_in (Play song bank ram rom to out) p = (answered song bank ram rom to (length out) p).refused
refused_in (Step song bank ram rom) p = refusal (step_taken song bank ram rom p).number
refused_in (Direct x) p = 0

-- ---- the engine's calls that a turn is

-- the first n channels let go, in order: control 64 with 0, and then control 123
unfoldable pub hush_calls : ℕ → List Call
hush_calls zero = []
hush_calls (suc n) = hush_calls n ++ (Control n 64 0 ∷ Control n 123 0 ∷ [])

-- and as in a fresh engine: bank 0 stored and, by program 0, taken, bend 8,192, control 7 at 100, 11 at 127
unfoldable pub fresh_calls : ℕ → List Call
fresh_calls zero = []
fresh_calls (suc n) = fresh_calls n ++ (Control n 0 0 ∷ Program n 0 ∷ Bend n 8192 ∷ Control n 7 100 ∷ Control n 11 127 ∷ [])

-- the call of an event; key and channel pressure have none
unfoldable pub call_of : List ℕ → List ℤ → List ℤ → Event → List Call
call_of bank ram rom v =
    cond (eqb (kind_of v) 8) (NoteOff (channel_in v) v.first ∷ [])
    (cond (eqb (kind_of v) 9) (NoteOn bank ram rom (channel_in v) v.first v.second ∷ [])
    (cond (eqb (kind_of v) 11) (Control (channel_in v) v.first v.second ∷ [])
    (cond (eqb (kind_of v) 12) (Program (channel_in v) v.first ∷ [])
    (cond (eqb (kind_of v) 14) (Bend (channel_in v) (bend_in v) ∷ []) []))))

-- the render of one frame, to a clock value, with an output of its own for two numbers
abbrev pub one_frame : List ℤ → List ℤ → ℕ → Call
one_frame ram rom to = Render to ram rom (nan ∷ nan ∷ [])

module _ (song bank : List ℕ) (ram rom : List ℤ) where
  -- the calls of the events that are due, at most n of them
  unfoldable pub due_calls : ℕ → Tally → List Call
  due_calls zero x = []
  due_calls (suc n) x =
      cond (is_due x.player) (call_of bank ram rom (coming_event x.player) ++ due_calls n (applying song bank ram rom x)) []

  -- n frames: in front of each the calls of the events that are due, and then its render
  unfoldable pub frame_calls : ℕ → Tally → List Call
  frame_calls zero x = []
  frame_calls (suc n) x =
      due_calls (turns song) x
      ++ (one_frame ram rom (ahead (prepared song bank ram rom x).player.engine 1)
      ∷ frame_calls n (forward ram rom 1 (prepared song bank ram rom x)))

-- the calls of a turn, in order; a refused start or render has none, nor has a step where no event is left
abbrev pub calls_of : Turn → Player → List Call
calls_of (Start song) p = cond (eqb (started song p).number 0) (hush_calls 16 ++ fresh_calls 16) []
calls_of Stop p = hush_calls 16
calls_of (Play song bank ram rom to out) p =
    cond (eqb (answered song bank ram rom to (length out) p).number 0) (frame_calls song bank ram rom (distance p.engine to) (opened p)) []
calls_of (Step song bank ram rom) p = cond (song_over p) [] (call_of bank ram rom (coming_event p))
calls_of (Direct x) p = x ∷ []

-- every render among some calls is done
abbrev pub RendersDone : List Call → Engine → Type 0
RendersDone [] e = Unit {0}
RendersDone (NoteOn b ram rom c k v ∷ xs) e = RendersDone xs (next (NoteOn b ram rom c k v) e)
RendersDone (NoteOff c k ∷ xs) e = RendersDone xs (next (NoteOff c k) e)
RendersDone (Control c n v ∷ xs) e = RendersDone xs (next (Control c n v) e)
RendersDone (Program c p ∷ xs) e = RendersDone xs (next (Program c p) e)
RendersDone (Bend c b ∷ xs) e = RendersDone xs (next (Bend c b) e)
RendersDone (Render to ram rom out ∷ xs) e =
    ((does (Render to ram rom out) e).status ≡ 0) × RendersDone xs (next (Render to ram rom out) e)
RendersDone (Ask i ∷ xs) e = RendersDone xs (next (Ask i) e)

-- .. among those of a turn; a host's direct render may be refused
abbrev pub OwnDone : Turn → Player → Type 0
OwnDone (Start song) p = RendersDone (calls_of (Start song) p) p.engine
OwnDone Stop p = RendersDone (calls_of Stop p) p.engine
OwnDone (Play song bank ram rom to out) p = RendersDone (calls_of (Play song bank ram rom to out) p) p.engine
OwnDone (Step song bank ram rom) p = RendersDone (calls_of (Step song bank ram rom) p) p.engine
OwnDone (Direct x) p = Unit {0}

-- a turn is its calls: the engine after it, the numbers and frames that it renders; and none of its renders is refused
pub record IsCalls (x : Turn) (p : Player) : Type 0 where
  pub engine : (next_turn x p).engine ≡ run (calls_of x p) p.engine
  pub numbers : numbers_of_turn x p ≡ numbers_of (calls_of x p) p.engine
  pub frames : frames_of_turn x p ≡ frames_run (calls_of x p) p.engine
  pub renders : OwnDone x p

-- every turn is, of every player. (A clock has 32 bits.)
abbrev pub PlayerIsEngine : Type 0
PlayerIsEngine = (x : Turn) (p : Player) → p.engine.clock < 4294967296 → IsCalls x p

-- ---- runs of turns

-- the player after a run of turns
unfoldable pub run_turns : List Turn → Player → Player
run_turns [] p = p
run_turns (x ∷ xs) p = run_turns xs (next_turn x p)

-- all numbers that it renders, one behind the other
unfoldable pub numbers_turns : List Turn → Player → List Float
numbers_turns [] p = []
numbers_turns (x ∷ xs) p = numbers_of_turn x p ++ numbers_turns xs (next_turn x p)

-- its frames
unfoldable pub frames_turns : List Turn → Player → ℕ
frames_turns [] p = 0
frames_turns (x ∷ xs) p = frames_of_turn x p + frames_turns xs (next_turn x p)

-- the events that it applies
unfoldable pub applied_turns : List Turn → Player → ℕ
applied_turns [] p = 0
applied_turns (x ∷ xs) p = applied_in x p + applied_turns xs (next_turn x p)

-- and the refused ones among them
unfoldable pub refused_turns : List Turn → Player → ℕ
refused_turns [] p = 0
refused_turns (x ∷ xs) p = refused_in x p + refused_turns xs (next_turn x p)

-- all its calls of the engine
unfoldable pub calls_turns : List Turn → Player → List Call
calls_turns [] p = []
calls_turns (x ∷ xs) p = calls_of x p ++ calls_turns xs (next_turn x p)

-- the clock value of a direct render has 32 bits
abbrev pub InClock : Call → Type 0
InClock (NoteOn b ram rom c k v) = Unit {0}
InClock (NoteOff c k) = Unit {0}
InClock (Control c n v) = Unit {0}
InClock (Program c p) = Unit {0}
InClock (Bend c b) = Unit {0}
InClock (Render to ram rom out) = to < 4294967296
InClock (Ask i) = Unit {0}

-- so has each among some turns
abbrev pub InClocks : List Turn → Type 0
InClocks [] = Unit {0}
InClocks (Start song ∷ xs) = InClocks xs
InClocks (Stop ∷ xs) = InClocks xs
InClocks (Play song bank ram rom to out ∷ xs) = InClocks xs
InClocks (Step song bank ram rom ∷ xs) = InClocks xs
InClocks (Direct x ∷ xs) = InClock x × InClocks xs

-- a run of turns is the run of all its calls
pub record IsRun (xs : List Turn) (p : Player) : Type 0 where
  pub engine : (run_turns xs p).engine ≡ run (calls_turns xs p) p.engine
  pub numbers : numbers_turns xs p ≡ numbers_of (calls_turns xs p) p.engine
  pub frames : frames_turns xs p ≡ frames_run (calls_turns xs p) p.engine

-- every run is, from every player
abbrev pub RunIsRun : Type 0
RunIsRun = (xs : List Turn) (p : Player) → p.engine.clock < 4294967296 → InClocks xs → IsRun xs p

-- so whatever holds of state, numbers and frames after every run of calls from the fresh engine holds after every run of turns from the fresh player
abbrev pub PlayerKeepsPromises : Type 1
PlayerKeepsPromises =
    (P : Engine → List Float → ℕ → Type 0) → ((xs : List Call) → P (run xs fresh) (numbers_of xs fresh) (frames_run xs fresh))
    → (ts : List Turn) → InClocks ts → P (run_turns ts idle).engine (numbers_turns ts idle) (frames_turns ts idle)

-- demand 3 of the player: between any two frames that its turns render a voice has moved as `PlaceBetweenAlways` says
abbrev pub PlaceInPlayer : Type 0
PlaceInPlayer =
    (ts : List Turn) (i a b : ℕ) (c : ℤ) → InClocks ts → a < b → b ≤ frames_turns ts idle →
    (slot_at (in_front a (calls_turns ts idle) fresh) i).sounding ≡ true →
    past (voice_in i (in_front a (calls_turns ts idle) fresh)).stage ≡ true →
    Stays i c a b (calls_turns ts idle) fresh →
    ((voice_in i (in_front a (calls_turns ts idle) fresh)).mode ≡ 3
    → released (voice_in i (in_front b (calls_turns ts idle) fresh)).stage ≡ released (voice_in i (in_front a (calls_turns ts idle) fresh)).stage) →
    Moved i c (b - a) (in_front a (calls_turns ts idle) fresh) (in_front b (calls_turns ts idle) fresh)
