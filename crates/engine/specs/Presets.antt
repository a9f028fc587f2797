-- What a note-on of a channel looks for in a bank: the bank number and the program of a preset.
use Rattle.std.specs.Prelude.{ℕ, cond, nat_lt}
use Rattle.state.specs.declared.Engine.{Engine}
use Rattle.state.specs.Channels.{channel_at}
use Rattle.events.specs.Striking.{channel_bank}

-- the program; a channel past 15 has none, 65,535
unfoldable pub sought_program : ℕ → Engine → ℕ
sought_program channel e = cond (nat_lt 15 channel) 65535 (channel_at e channel).program

-- the bank number: the one that the last program change took, and 128 on channel 9; past channel 15 none, 65,535
unfoldable pub sought_bank : ℕ → Engine → ℕ
sought_bank channel e = cond (nat_lt 15 channel) 65535 (channel_bank e channel)
