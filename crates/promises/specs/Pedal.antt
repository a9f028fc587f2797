-- Demand 2: under the pedal no voice is lost. Lifting it releases what it held, and none waits for a pedal that is up.
use Rattle.std.specs.Prelude.{ℕ, ◌≤◌, ◌<◌, true, false, ◌≡◌, List}
use Rattle.voice.specs.Release.{release}
use Rattle.state.specs.declared.Engine.{Engine}
use Rattle.state.specs.Quiet.{fresh}
use Rattle.state.specs.Answers.{done}
use Rattle.state.specs.Channels.{channel_at, with_channel}
use Rattle.state.specs.Slots.{slot_at, with_voice}
use Rattle.events.specs.Controls.{with_pedal}
use Rattle.events.specs.Keys.{pedal_down, pedal_held}
use Rattle.promises.specs.Calls.{Call, Control, does, next, run, voice_in}

-- control 64 below 64: each marked voice of the channel keeps its slot and is released there, none stays marked, every other
-- slot is as it was; the channel's pedal is set, and nothing else moves
pub record Lifted (channel value : ℕ) (e : Engine) : Type 0 where
  pub done : does (Control channel 64 value) e ≡ done 0 (next (Control channel 64 value) e)
  pub all : (i : ℕ) → pedal_held channel (slot_at e i) ≡ true
      → slot_at (next (Control channel 64 value) e) i ≡ with_voice (slot_at e i) (release (voice_in i e))
  pub none : (i : ℕ) → pedal_held channel (slot_at (next (Control channel 64 value) e) i) ≡ false
  pub others : (i : ℕ) → pedal_held channel (slot_at e i) ≡ false → slot_at (next (Control channel 64 value) e) i ≡ slot_at e i
  pub channels : (next (Control channel 64 value) e).channels ≡ (with_channel e channel (with_pedal (channel_at e channel) value)).channels
  pub order : (next (Control channel 64 value) e).order ≡ e.order
  pub clock : (next (Control channel 64 value) e).clock ≡ e.clock

-- that is so in every state, for every channel and every value below 64
abbrev pub LiftingReleases : Type 0
LiftingReleases = (channel value : ℕ) (e : Engine) → channel ≤ 15 → value < 64 → Lifted channel value e

-- the pedal of each marked voice is down
abbrev pub MarksUnderPedal : Engine → Type 0
MarksUnderPedal e =
    (i : ℕ) → (slot_at e i).sounding ≡ true → (voice_in i e).marked ≡ true → pedal_down e (voice_in i e).channel ≡ true

-- no voice is marked while its pedal is up, after any run
abbrev pub NoMarkWithoutPedal : Type 0
NoMarkWithoutPedal = (xs : List Call) → MarksUnderPedal (run xs fresh)
