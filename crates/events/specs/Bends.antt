-- 01, "From a key to layers" and the table: pitch bend.
use Rattle.std.specs.Prelude.{ℕ, cond}
use Rattle.voice.specs.declared.Channel.{Channel}
use Rattle.state.specs.declared.Engine.{Engine}
use Rattle.state.specs.Answers.{Answered}
use Rattle.state.specs.Channels.{channel_at, with_channel}
use Rattle.state.specs.Answers.{done, answer, past_bend}

-- the bend
abbrev pub with_bend : Channel → ℕ → Channel
with_bend c x =
    record { program = c.program; stored = c.stored; bank = c.bank; bend = x; volume = c.volume; expression = c.expression; pedal = c.pedal }

-- pitch bend
unfoldable pub pitch_bend : ℕ → ℕ → Engine → Answered
pitch_bend channel bend e =
    answer (cond (past_bend channel bend) 2 0) e (done 0 (with_channel e channel (with_bend (channel_at e channel) bend)))
