-- Demand 2, controls, program change and pitch bend (01, "Slots, keys and the clock"): what each sets or frees, and that nothing
-- else moves.
use Rattle.std.specs.Prelude.{ℕ, zero, suc, ◌≤◌, true, false, List, [], ◌∷◌, eqb, ◌≡◌}
use Rattle.arith.specs.Lists.{any_of}
use Rattle.voice.specs.declared.Channel.{Channel}
use Rattle.voice.specs.Changes.{free}
use Rattle.state.specs.declared.Engine.{Engine}
use Rattle.state.specs.Quiet.{fresh}
use Rattle.state.specs.Answers.{done}
use Rattle.state.specs.Channels.{channel_at, with_channel}
use Rattle.state.specs.Slots.{slot_at, of_channel}
use Rattle.events.specs.Bends.{with_bend}
use Rattle.events.specs.Controls.{with_stored, with_volume, with_expression, with_pedal}
use Rattle.events.specs.Programs.{with_program}
use Rattle.promises.specs.Calls.{Call, NoteOff, Control, Program, Bend, does, next, run, voice_in}

-- a call is done, changes one channel as f says, and moves nothing else
abbrev pub Sets : Call → ℕ → (Channel → Channel) → Engine → Type 0
Sets x channel f e = does x e ≡ done 0 (with_channel e channel (f (channel_at e channel)))

-- controls 0, 7 and 11, the pedal put down (`Pedal.antt` has it lifted), and a program change, which takes the stored bank
pub record SetsOne (channel value : ℕ) (e : Engine) : Type 0 where
  pub stored : Sets (Control channel 0 value) channel (λ (c : Channel). with_stored c value) e
  pub volume : Sets (Control channel 7 value) channel (λ (c : Channel). with_volume c value) e
  pub expression : Sets (Control channel 11 value) channel (λ (c : Channel). with_expression c value) e
  pub down : 64 ≤ value → Sets (Control channel 64 value) channel (λ (c : Channel). with_pedal c value) e
  pub program : Sets (Program channel value) channel (λ (c : Channel). with_program c value) e

-- that is so in every state, within the ranges
abbrev pub ControlsSetOne : Type 0
ControlsSetOne = (channel value : ℕ) (e : Engine) → channel ≤ 15 → value ≤ 127 → SetsOne channel value e

-- and so of a bend
abbrev pub BendSetsOne : Type 0
BendSetsOne =
    (channel bend : ℕ) (e : Engine) → channel ≤ 15 → bend ≤ 16383
    → Sets (Bend channel bend) channel (λ (c : Channel). with_bend c bend) e

-- a control that is none of 0, 7, 11, 64, 120 and 123 does nothing
abbrev pub OthersDoNothing : Type 0
OthersDoNothing =
    (channel control value : ℕ) (e : Engine) → channel ≤ 15 → control ≤ 127 → value ≤ 127
    → any_of (eqb control) (0 ∷ 7 ∷ 11 ∷ 64 ∷ 120 ∷ 123 ∷ []) ≡ false → does (Control channel control value) e ≡ done 0 e

-- control 120 frees exactly the channel's voices: every other slot, the channels, the order of age and the clock stay
pub record Silenced (channel value : ℕ) (e : Engine) : Type 0 where
  pub done : does (Control channel 120 value) e ≡ done 0 (next (Control channel 120 value) e)
  pub freed : (i : ℕ) → of_channel channel (slot_at e i) ≡ true → slot_at (next (Control channel 120 value) e) i ≡ free (voice_in i e)
  pub others : (i : ℕ) → of_channel channel (slot_at e i) ≡ false → slot_at (next (Control channel 120 value) e) i ≡ slot_at e i
  pub channels : (next (Control channel 120 value) e).channels ≡ e.channels
  pub order : (next (Control channel 120 value) e).order ≡ e.order
  pub clock : (next (Control channel 120 value) e).clock ≡ e.clock

-- that is so in every state, whatever the value
abbrev pub AllSoundOff : Type 0
AllSoundOff = (channel value : ℕ) (e : Engine) → channel ≤ 15 → value ≤ 127 → Silenced channel value e

-- note-offs for the keys below n, one by one
unfoldable pub keys_off : ℕ → ℕ → Engine → Engine
keys_off channel zero e = e
keys_off channel (suc n) e = next (NoteOff channel n) (keys_off channel n e)

-- control 123 is a note-off for keys 0..127, one by one, where no voice has another key
abbrev pub AllNotesOff : Type 0
AllNotesOff =
    (channel value : ℕ) (e : Engine) → channel ≤ 15 → value ≤ 127
    → ((i : ℕ) → (slot_at e i).sounding ≡ true → (voice_in i e).key ≤ 127)
    → does (Control channel 123 value) e ≡ done 0 (keys_off channel 128 e)

-- none has, so it is that after any run
abbrev pub AllNotesOffAlways : Type 0
AllNotesOffAlways =
    (before : List Call) (channel value : ℕ) → channel ≤ 15 → value ≤ 127
    → does (Control channel 123 value) (run before fresh) ≡ done 0 (keys_off channel 128 (run before fresh))
