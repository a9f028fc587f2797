-- 01, "From a key to layers" and the table: program change.
use Rattle.std.specs.Prelude.{ℕ, cond}
use Rattle.voice.specs.declared.Channel.{Channel}
use Rattle.state.specs.declared.Engine.{Engine}
use Rattle.state.specs.Answers.{Answered}
use Rattle.state.specs.Channels.{channel_at, with_channel}
use Rattle.state.specs.Answers.{done, answer, past_one}

-- a program, and the stored bank taken
abbrev pub with_program : Channel → ℕ → Channel
with_program c x =
    record { program = x; stored = c.stored; bank = c.stored; bend = c.bend; volume = c.volume; expression = c.expression; pedal = c.pedal }

-- program change: takes the stored bank
unfoldable pub program_change : ℕ → ℕ → Engine → Answered
program_change channel program e =
    answer (cond (past_one channel program) 2 0) e
    (done 0 (with_channel e channel (with_program (channel_at e channel) program)))
