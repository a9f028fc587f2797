-- What the player answers, that what it refuses changes nothing, and what start and stop do to voices, channels and clock.
use Rattle.std.specs.Prelude.{ℕ, ◌<◌, ◌*◌, true, false, List, [], ◌∷◌, ◌≡◌, ℤ, Float, length, drop}
use Rattle.smf.specs.Songs.{test_of, handed_of}
use Rattle.voice.specs.declared.Slot.{Slot}
use Rattle.state.specs.declared.Engine.{Engine}
use Rattle.state.specs.Channels.{channel_at}
use Rattle.state.specs.Quiet.{fresh_channel}
use Rattle.state.specs.Slots.{slot_at}
use Rattle.engine.specs.Rendering.{distance}
use Rattle.player.specs.declared.Player.{Player}
use Rattle.player.specs.Cues.{song_over, idle, with_engine, cued}
use Rattle.player.specs.Pauses.{started}
use Rattle.player.specs.Playing.{answered}
use Rattle.player.specs.Stepping.{step_taken}
use Rattle.promises.specs.Calls.{Call, Render, does}
use Rattle.promises.specs.Night.{AllReleased}
use Rattle.recitals.specs.Turns.{Turn, Start, Stop, Play, Step, next_turn, written_in, applied_in, calls_of, run_turns, InClocks}

-- ---- answers

-- a start answers with number and place of the file's test; a refused file changes nothing
pub record StartAnswers (song : List ℕ) (p : Player) : Type 0 where
  pub number : (started song p).number ≡ (test_of song).number
  pub place : (started song p).place ≡ (test_of song).place
  pub refused : ((test_of song).number ≡ 0 → ⊥) → next_turn (Start song) p ≡ p

-- that is so of every file and every player
abbrev pub StartIsTested : Type 0
StartIsTested = (song : List ℕ) (p : Player) → StartAnswers song p

-- a refused render changes nothing: neither the player nor any of the output, and no event is applied
pub record Unplayed (song bank : List ℕ) (ram rom : List ℤ) (to : ℕ) (out : List Float) (p : Player) : Type 0 where
  pub player : next_turn (Play song bank ram rom to out) p ≡ p
  pub applied : (answered song bank ram rom to (length out) p).applied ≡ 0
  pub refused : (answered song bank ram rom to (length out) p).refused ≡ 0
  pub output : written_in (Play song bank ram rom to out) p ≡ out

-- a render answers with the number of the engine's own render of the same arguments, which `RenderNumbers` gives case by case; done, it writes two numbers for
-- each frame and no other
pub record PlayAnswers (song bank : List ℕ) (ram rom : List ℤ) (to : ℕ) (out : List Float) (p : Player) : Type 0 where
  pub number : (answered song bank ram rom to (length out) p).number ≡ (does (Render to ram rom out) p.engine).status
  pub refusal : ((answered song bank ram rom to (length out) p).number ≡ 0 → ⊥) → Unplayed song bank ram rom to out p
  pub behind : drop (2 * distance p.engine to) (written_in (Play song bank ram rom to out) p) ≡ drop (2 * distance p.engine to) out

-- that is so of every render
abbrev pub PlayIsTested : Type 0
PlayIsTested = (song bank : List ℕ) (ram rom : List ℤ) (to : ℕ) (out : List Float) (p : Player) → PlayAnswers song bank ram rom to out p

-- the engine's number for the first of some calls, 0 where there is none
abbrev pub first_number : List Call → Engine → ℕ
first_number [] e = 0
first_number (x ∷ xs) e = (does x e).status

-- a step answers with the engine's number for the call of its event; the event behind it, in the song that is lent, comes next, also where it was refused, and then
-- nothing else changes; where no event is left nothing changes at all
pub record StepAnswers (song bank : List ℕ) (ram rom : List ℤ) (p : Player) : Type 0 where
  pub number : (step_taken song bank ram rom p).number ≡ first_number (calls_of (Step song bank ram rom) p) p.engine
  pub none : song_over p ≡ true → (next_turn (Step song bank ram rom) p ≡ p) × (applied_in (Step song bank ram rom) p ≡ 0)
  pub one : song_over p ≡ false → applied_in (Step song bank ram rom) p ≡ 1
  pub behind : song_over p ≡ false → next_turn (Step song bank ram rom) p ≡ cued (with_engine p (next_turn (Step song bank ram rom) p).engine) (handed_of song p.cursor)
  pub refused : ((step_taken song bank ram rom p).number ≡ 0 → ⊥) → next_turn (Step song bank ram rom) p ≡ cued p (handed_of song p.cursor)

-- that is so of every step
abbrev pub StepIsTested : Type 0
StepIsTested = (song bank : List ℕ) (ram rom : List ℤ) (p : Player) → StepAnswers song bank ram rom p

-- ---- start and stop

-- a song that starts finds every channel's program, bend and controls as in a fresh engine. (An engine has 16 channels.)
abbrev pub ChannelsBeginFresh : Type 0
ChannelsBeginFresh =
    (song : List ℕ) (p : Player) (c : ℕ) → (test_of song).number ≡ 0 → length p.engine.channels ≡ 16 → c < 16
    → channel_at (next_turn (Start song) p).engine c ≡ fresh_channel

-- neither moves the clock
abbrev pub ClockStands : Type 0
ClockStands =
    (song : List ℕ) (p : Player)
    → ((next_turn (Start song) p).engine.clock ≡ p.engine.clock) × ((next_turn Stop p).engine.clock ≡ p.engine.clock)

-- a slot sounds as it did, with its voice's channel, key and place
pub record Stands (s t : Slot) : Type 0 where
  pub sounding : t.sounding ≡ s.sounding
  pub channel : t.voice.channel ≡ s.voice.channel
  pub key : t.voice.key ≡ s.voice.key
  pub place : t.voice.place ≡ s.voice.place

-- neither frees, starts or moves a voice
abbrev pub VoicesStand : Type 0
VoicesStand =
    (song : List ℕ) (p : Player) (i : ℕ)
    → Stands (slot_at p.engine i) (slot_at (next_turn (Start song) p).engine i) × Stands (slot_at p.engine i) (slot_at (next_turn Stop p).engine i)

-- after any turns, a song that starts finds every voice that sounds released
abbrev pub StartReleases : Type 0
StartReleases =
    (song : List ℕ) (ts : List Turn) → InClocks ts → (test_of song).number ≡ 0 → AllReleased (next_turn (Start song) (run_turns ts idle)).engine

-- and a stop leaves it so, and no event to come
abbrev pub StopEnds : Type 0
StopEnds =
    (ts : List Turn) → InClocks ts
    → AllReleased (next_turn Stop (run_turns ts idle)).engine × (song_over (next_turn Stop (run_turns ts idle)) ≡ true)
