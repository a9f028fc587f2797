-- A run of C's calls on one state is a run of the player's turns: so what is promised of the player is promised of the library.
use Rattle.std.specs.Prelude.{ℕ, List, [], ◌∷◌, ◌≡◌, ℤ, Float, length}
use Rattle.smf.specs.Songs.{handed_of}
use Rattle.state.specs.declared.Engine.{Engine}
use Rattle.state.specs.Quiet.{fresh}
use Rattle.engine.specs.Rendering.{render}
use Rattle.player.specs.declared.Player.{Player}
use Rattle.player.specs.Cues.{idle, cued}
use Rattle.player.specs.Pauses.{started, stopped}
use Rattle.player.specs.Playing.{answered}
use Rattle.player.specs.Stepping.{step_taken}
use Rattle.cabinet.specs.declared.Flat.{Flat}
use Rattle.cabinet.specs.Keeping.{player_in, engine_in, kept, kept_answer, kept_start, kept_play}
use Rattle.cabinet.specs.Steps.{kept_step}
use Rattle.promises.specs.Calls.{Call, NoteOn, NoteOff, Control, Program, Bend, Render, Ask, does, run, frames_run}
use Rattle.promises.specs.Cuts.{numbers_of}
use Rattle.recitals.specs.Turns.{Turn, Start, Stop, Play, Step, Direct, next_turn, written_in, run_turns, numbers_turns, frames_turns, InClocks}

-- C's memory after init
abbrev pub kept_fresh : Flat
kept_fresh = kept 0 0 0 0 idle

-- C's memory after a direct call, as the contracts of the messages and of render say; a question leaves it as it is
abbrev pub kept_call : Call → Flat → Flat
kept_call (NoteOn b ram rom c k v) s = kept_answer (does (NoteOn b ram rom c k v) (engine_in s)) s
kept_call (NoteOff c k) s = kept_answer (does (NoteOff c k) (engine_in s)) s
kept_call (Control c n v) s = kept_answer (does (Control c n v) (engine_in s)) s
kept_call (Program c p) s = kept_answer (does (Program c p) (engine_in s)) s
kept_call (Bend c b) s = kept_answer (does (Bend c b) (engine_in s)) s
kept_call (Render to ram rom out) s = kept_answer (does (Render to ram rom out) (engine_in s)) s
kept_call (Ask i) s = s

-- C's memory after a turn, as the contracts of song_start, song_stop, song_render and song_step say
abbrev pub kept_turn : Turn → Flat → Flat
kept_turn (Start song) s = kept_start (started song (player_in s))
kept_turn Stop s = kept 0 0 0 0 (stopped (player_in s))
kept_turn (Play song bank ram rom to out) s = kept_play (answered song bank ram rom to (length out) (player_in s))
kept_turn (Step song bank ram rom) s = kept_step (step_taken song bank ram rom (player_in s))
kept_turn (Direct x) s = kept_call x s

-- C's memory after a run
unfoldable pub kept_run : List Turn → Flat → Flat
kept_run [] s = s
kept_run (x ∷ xs) s = kept_run xs (kept_turn x s)

-- what the lent outputs of a run hold after it: each is written by the player that C's memory holds in front of its call
unfoldable pub kept_outputs : List Turn → Flat → List (List Float)
kept_outputs [] s = []
kept_outputs (x ∷ xs) s = written_in x (player_in s) ∷ kept_outputs xs (kept_turn x s)

-- the same of a player
unfoldable pub turn_outputs : List Turn → Player → List (List Float)
turn_outputs [] p = []
turn_outputs (x ∷ xs) p = written_in x p ∷ turn_outputs xs (next_turn x p)

-- the player that C's memory holds after a run is the player after that run
abbrev pub SameRun : Type 0
SameRun = (xs : List Turn) (s : Flat) → player_in (kept_run xs s) ≡ run_turns xs (player_in s)

-- from init on it is the fresh player's run
abbrev pub SameRunFresh : Type 0
SameRunFresh = (xs : List Turn) → player_in (kept_run xs kept_fresh) ≡ run_turns xs idle

-- and what is heard is what the player makes
abbrev pub SameOutputs : Type 0
SameOutputs = (xs : List Turn) (s : Flat) → kept_outputs xs s ≡ turn_outputs xs (player_in s)

-- the player behind a refused turn: as it was; but a song goes on behind an event that was refused to a step
abbrev pub after_refusal : Turn → Player → Player
after_refusal (Start song) p = p
after_refusal Stop p = p
after_refusal (Play song bank ram rom to out) p = p
after_refusal (Step song bank ram rom) p = cued p (handed_of song p.cursor)
after_refusal (Direct x) p = p

-- a refused call leaves that player in C's memory, and the engine as it was
abbrev pub RefusedCallsKeep : Type 0
RefusedCallsKeep =
    (x : Turn) (s : Flat) → ((kept_turn x s).number ≡ 0 → ⊥)
    → (player_in (kept_turn x s) ≡ after_refusal x (player_in s)) × (engine_in (kept_turn x s) ≡ engine_in s)

-- C's memory after a call of sums, as its contract says
abbrev pub kept_sums : ℕ → List ℤ → List ℤ → List ℤ → Flat → Flat
kept_sums to ram rom out s = kept_answer (render to ram rom (length out) (engine_in s)) s

-- it is C's memory after a render into an output of the same length: a host may ask for either, call by call
abbrev pub SumsKeepAsRender : Type 0
SumsKeepAsRender =
    (to : ℕ) (ram rom sums : List ℤ) (out : List Float) (s : Flat) → length sums ≡ length out
    → kept_sums to ram rom sums s ≡ kept_call (Render to ram rom out) s

-- so whatever holds of state, numbers and frames after every run of the engine's calls holds after every run of C's calls from init on
abbrev pub LibraryKeepsPromises : Type 1
LibraryKeepsPromises =
    (P : Engine → List Float → ℕ → Type 0) → ((xs : List Call) → P (run xs fresh) (numbers_of xs fresh) (frames_run xs fresh))
    → (ts : List Turn) → InClocks ts → P (engine_in (kept_run ts kept_fresh)) (numbers_turns ts idle) (frames_turns ts idle)
