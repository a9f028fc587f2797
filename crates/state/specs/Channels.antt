-- 01, "Slots, keys and the clock": the state's 16 channels.
use Rattle.std.specs.Prelude.{ℕ, get_or, set}
use Rattle.voice.specs.declared.Channel.{Channel}
use Rattle.state.specs.declared.Engine.{Engine}
use Rattle.state.specs.Quiet.{changed}

-- a channel of zeros, which a read past the end gives
abbrev pub no_channel : Channel
no_channel = record { program = 0; stored = 0; bank = 0; bend = 0; volume = 0; expression = 0; pedal = 0 }

-- channel c
abbrev pub channel_at : Engine → ℕ → Channel
channel_at e c = get_or e.channels c no_channel

-- the state with another channel c
abbrev pub with_channel : Engine → ℕ → Channel → Engine
with_channel e c x = changed e e.voices (set e.channels c x) e.sounding e.order e.clock
