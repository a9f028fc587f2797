-- A song that is started and played, however its renders are cut: each of the file's events once, in order, at its frame.
use Rattle.std.specs.Prelude.{ℕ, zero, suc, ◌+◌, ◌%◌, ◌<◌, ◌≤◌, cond, true, List, [], ◌∷◌, ◌++◌, ◌≡◌, eqb, ltb, ℤ, Float, length}
use Rattle.smf.specs.declared.Event.{Event}
use Rattle.smf.specs.Track.{Events}
use Rattle.smf.specs.Songs.{events_of}
use Rattle.engine.specs.Rendering.{distance}
use Rattle.player.specs.declared.Player.{Player}
use Rattle.player.specs.Cues.{song_over, coming_event, is_due, gap_of}
use Rattle.player.specs.Playing.{answered}
use Rattle.promises.specs.Calls.{Call, Render, does, run}
use Rattle.promises.specs.Cuts.{ahead, numbers_of}
use Rattle.recitals.specs.Turns.{Turn, Start, Play, Step, Direct, next_turn, frames_of_turn, hush_calls, fresh_calls, call_of, one_frame, run_turns, numbers_turns, applied_turns}

-- ---- the run of calls that a song names

-- the events whose frame is k, in the file's order
unfoldable pub events_at : ℕ → List Event → List Event
events_at k [] = []
events_at k (v ∷ vs) = cond (eqb v.frame k) (v ∷ events_at k vs) (events_at k vs)

-- the events whose frame is below n, in the file's order
unfoldable pub events_before : ℕ → List Event → List Event
events_before n [] = []
events_before n (v ∷ vs) = cond (ltb v.frame n) (v ∷ events_before n vs) (events_before n vs)

-- the events of the first n frames, frame by frame
unfoldable pub frame_by_frame : ℕ → List Event → List Event
frame_by_frame zero vs = []
frame_by_frame (suc n) vs = frame_by_frame n vs ++ events_at n vs

-- the calls of some events, in their order
unfoldable pub calls_for : List ℕ → List ℤ → List ℤ → List Event → List Call
calls_for bank ram rom [] = []
calls_for bank ram rom (v ∷ vs) = call_of bank ram rom v ++ calls_for bank ram rom vs

-- the first n frames of a song that begins at a clock value: for each frame the calls of its events, and then its render
unfoldable pub recital : List ℕ → List ℤ → List ℤ → List Event → ℕ → ℕ → List Call
recital bank ram rom vs began zero = []
recital bank ram rom vs began (suc n) =
    recital bank ram rom vs began n
    ++ (calls_for bank ram rom (events_at n vs) ++ (one_frame ram rom ((began + suc n) % 4294967296) ∷ []))

-- what a start calls, and then the song's n frames
abbrev pub started_calls : List ℕ → List ℤ → List ℤ → List Event → ℕ → ℕ → List Call
started_calls bank ram rom vs began n = (hush_calls 16 ++ fresh_calls 16) ++ recital bank ram rom vs began n

-- ---- the turns that play it

-- done renders of one song, with one bank and the same memories, that have n frames together; any turn that changes nothing and renders nothing may come between.
-- Frames within the gap up to the next event may be a done render of the engine's own; and an event that is due may be stepped over, where frames are left behind it
-- and a render of one frame would be done. (The numbers of a song, and a clock, have 32 bits.)
pub data Plays (song bank : List ℕ) (ram rom : List ℤ) : List Turn → ℕ → Player → Type 0 where
  rests : {p : Player} → Plays song bank ram rom [] 0 p
  waits : {xs : List Turn} {n : ℕ} {p : Player} (x : Turn) → next_turn x p ≡ p → frames_of_turn x p ≡ 0 → Plays song bank ram rom xs n p
      → Plays song bank ram rom (x ∷ xs) n p
  plays : {xs : List Turn} {n : ℕ} {p : Player} (to : ℕ) (out : List Float) → (answered song bank ram rom to (length out) p).number ≡ 0
      → Plays song bank ram rom xs n (next_turn (Play song bank ram rom to out) p)
      → Plays song bank ram rom (Play song bank ram rom to out ∷ xs) (distance p.engine to + n) p
  goes-alone : {xs : List Turn} {n : ℕ} {p : Player} (m most : ℕ) (out : List Float) → 0 < m → m ≤ gap_of p most → m ≤ 4096
      → p.engine.clock < 4294967296 → p.began < 4294967296 → (coming_event p).frame < 4294967296
      → (does (Render (ahead p.engine m) ram rom out) p.engine).status ≡ 0
      → Plays song bank ram rom xs n (next_turn (Direct (Render (ahead p.engine m) ram rom out)) p)
      → Plays song bank ram rom (Direct (Render (ahead p.engine m) ram rom out) ∷ xs) (m + n) p
  steps-over : {xs : List Turn} {n : ℕ} {p : Player} → is_due p ≡ true → 0 < n → (answered song bank ram rom (ahead p.engine 1) 2 p).number ≡ 0
      → Plays song bank ram rom xs n (next_turn (Step song bank ram rom) p) → Plays song bank ram rom (Step song bank ram rom ∷ xs) n p

-- n frames of a song with the events vs: state and numbers are those of its run of calls; the clock is n frames on; as many events are applied as have a frame
-- below n; and the song is over exactly when these are all
pub record Recited (song bank : List ℕ) (ram rom : List ℤ) (vs : List Event) (n : ℕ) (ts : List Turn) (p : Player) : Type 0 where
  pub engine : (run_turns (Start song ∷ ts) p).engine ≡ run (started_calls bank ram rom vs p.engine.clock n) p.engine
  pub numbers : numbers_turns (Start song ∷ ts) p ≡ numbers_of (started_calls bank ram rom vs p.engine.clock n) p.engine
  pub clock : (run_turns (Start song ∷ ts) p).engine.clock ≡ ahead p.engine n
  pub applied : applied_turns (Start song ∷ ts) p ≡ length (events_before n vs)
  pub over : song_over (run_turns (Start song ∷ ts) p) ≡ true → events_before n vs ≡ vs
  pub all : events_before n vs ≡ vs → song_over (run_turns (Start song ∷ ts) p) ≡ true

-- that is so of every song that is not refused, from every player, however long it is played
abbrev pub SongIsPlayed : Type 0
SongIsPlayed =
    (song bank : List ℕ) (ram rom : List ℤ) (vs : List Event) (n : ℕ) (ts : List Turn) (p : Player) → p.engine.clock < 4294967296
    → events_of song ≡ Events vs → Plays song bank ram rom ts n (next_turn (Start song) p) → Recited song bank ram rom vs n ts p

-- each event once and in order: those of the frames, one behind the other, are the file's events in the file's order
abbrev pub EachOnce : Type 0
EachOnce = (song : List ℕ) (vs : List Event) (n : ℕ) → events_of song ≡ Events vs → frame_by_frame n vs ≡ events_before n vs

-- an hour and a frame are enough for all of them
abbrev pub AllInAnHour : Type 0
AllInAnHour = (song : List ℕ) (vs : List Event) (n : ℕ) → events_of song ≡ Events vs → 158760000 < n → events_before n vs ≡ vs
