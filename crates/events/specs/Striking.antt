-- 01, "From a key to layers" and the table: note-on. What the bank says of a key is handed in.
use Rattle.std.specs.Prelude.{ℕ, List, Bool, cond, not, eqb, ltb, ℤ, length}
use Rattle.bank.specs.Admission.{admitted}
use Rattle.layers.specs.Voicing.{has_preset, struck_voices}
use Rattle.voice.specs.declared.Voice.{Voice}
use Rattle.state.specs.declared.Engine.{Engine}
use Rattle.state.specs.Channels.{channel_at}
use Rattle.events.specs.Starting.{any_past, struck}
use Rattle.events.specs.Keys.{off_key}
use Rattle.state.specs.Answers.{Answered}
use Rattle.state.specs.Answers.{done, answer, past_two}

-- what a lent bank says: admitted or not, whether it has a preset (bank, program), and the voices that the layers of
-- a preset start for channel, key and velocity, in order (the search stops at the thirty-third)
pub record Bank : Type 0 where
  pub admitted : Bool
  pub has_preset : ℕ → ℕ → Bool
  pub voices : ℕ → ℕ → ℕ → ℕ → ℕ → List Voice

-- admitted or not, its presets, and the voices that a key starts
unfoldable pub bank_from : List ℕ → Bank
bank_from b = record { admitted = admitted b; has_preset = has_preset b; voices = struck_voices b }

-- the bank number of a channel: 128 on channel 9
unfoldable pub channel_bank : Engine → ℕ → ℕ
channel_bank e channel = cond (eqb channel 9) 128 (channel_at e channel).bank

-- the voices that it starts
abbrev pub layer_voices : Bank → ℕ → ℕ → ℕ → Engine → List Voice
layer_voices b channel key velocity e =
    b.voices (channel_bank e channel) (channel_at e channel).program channel key velocity

-- the tests behind the first: 1, 3, 4, 8
unfoldable pub note_on_number : Bank → List ℤ → List ℤ → ℕ → ℕ → ℕ → Engine → ℕ
note_on_number b ram rom channel key velocity e =
    cond (not b.admitted) 1
    (cond (not (b.has_preset (channel_bank e channel) (channel_at e channel).program)) 3
    (cond (ltb 32 (length (layer_voices b channel key velocity e))) 4
    (cond (any_past ram rom (layer_voices b channel key velocity e)) 8 0)))

-- note-on; velocity 0, once the ranges are tested, is a note-off and needs no bank
unfoldable pub note_on : Bank → List ℤ → List ℤ → ℕ → ℕ → ℕ → Engine → Answered
note_on b ram rom channel key velocity e =
    answer (cond (past_two channel key velocity) 2 0) e
    (cond (eqb velocity 0) (off_key channel key e)
    (answer (note_on_number b ram rom channel key velocity e) e
    (done (length (layer_voices b channel key velocity e)) (struck channel (layer_voices b channel key velocity e) e).engine)))
