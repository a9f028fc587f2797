-- 01, "Slots, keys and the clock": the fresh state, and a state with other parts.
use Rattle.std.specs.Prelude.{ℕ, zero, suc, ◌+◌, List, [], ◌∷◌, replicate}
use Rattle.voice.specs.declared.Channel.{Channel}
use Rattle.voice.specs.declared.Voice.{Voice}
use Rattle.state.specs.declared.Engine.{Engine}
use Rattle.voice.specs.Changes.{blank}

-- a state with other voices, channels, word, order of age and clock: beside `fresh`, the one place where a state is built
abbrev pub changed : Engine → List Voice → List Channel → ℕ → List ℕ → ℕ → Engine
changed e voices channels sounding order clock =
    record { voices = voices; channels = channels; sounding = sounding; order = order; clock = clock }

-- a fresh channel: bend 8,192, control 7 at 100, 11 at 127, all else 0
abbrev pub fresh_channel : Channel
fresh_channel =
    record { program = 0; stored = 0; bank = 0; bend = 8192; volume = 100; expression = 127; pedal = 0 }

-- n numbers, counted from i
abbrev pub up_from : ℕ → ℕ → List ℕ
up_from i zero = []
up_from i (suc n) = i ∷ up_from (i + 1) n

-- the fresh state: no slot sounds, clock 0
unfoldable pub fresh : Engine
fresh =
    record {
      voices = replicate 32 blank;
      channels = replicate 16 fresh_channel;
      sounding = 0;
      order = up_from 0 32;
      clock = 0;
    }
