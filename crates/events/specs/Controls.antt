-- 01, "Slots, keys and the clock" and the table: control change.
use Rattle.std.specs.Prelude.{ℕ, cond, false, map, ltb, eqb}
use Rattle.voice.specs.declared.Channel.{Channel}
use Rattle.events.specs.Keys.{let_off, pedal_held, held, off}
use Rattle.state.specs.declared.Engine.{Engine}
use Rattle.state.specs.Slots.{slots_of, with_slots, of_channel, cut}
use Rattle.state.specs.Channels.{channel_at, with_channel}
use Rattle.state.specs.Answers.{Answered}
use Rattle.state.specs.Answers.{done, answer, past_two}

-- the bank that control 0 stores
abbrev pub with_stored : Channel → ℕ → Channel
with_stored c x =
    record { program = c.program; stored = x; bank = c.bank; bend = c.bend; volume = c.volume; expression = c.expression; pedal = c.pedal }

-- control 7
abbrev pub with_volume : Channel → ℕ → Channel
with_volume c x =
    record { program = c.program; stored = c.stored; bank = c.bank; bend = c.bend; volume = x; expression = c.expression; pedal = c.pedal }

-- control 11
abbrev pub with_expression : Channel → ℕ → Channel
with_expression c x =
    record { program = c.program; stored = c.stored; bank = c.bank; bend = c.bend; volume = c.volume; expression = x; pedal = c.pedal }

-- control 64
abbrev pub with_pedal : Channel → ℕ → Channel
with_pedal c x =
    record { program = c.program; stored = c.stored; bank = c.bank; bend = c.bend; volume = c.volume; expression = c.expression; pedal = x }

-- 64: the pedal's value; lifting it (below 64) releases the marked voices
unfoldable pub pedal : ℕ → ℕ → Engine → Engine
pedal channel value e =
    cond (ltb value 64)
    (with_slots (with_channel e channel (with_pedal (channel_at e channel) value)) (map (let_off false (pedal_held channel)) (slots_of e)))
    (with_channel e channel (with_pedal (channel_at e channel) value))

-- 120: frees the channel's voices
unfoldable pub silence : ℕ → Engine → Engine
silence channel e = with_slots e (map (cut (of_channel channel)) (slots_of e))

-- a control past its tests: 0, 7, 11, 64, 120, 123 (as note-off for all keys); others do nothing
unfoldable pub controlled : ℕ → ℕ → ℕ → Engine → Engine
controlled channel control value e =
    let c = channel_at e channel in
    cond (eqb control 0) (with_channel e channel (with_stored c value))
    (cond (eqb control 7) (with_channel e channel (with_volume c value))
    (cond (eqb control 11) (with_channel e channel (with_expression c value))
    (cond (eqb control 64) (pedal channel value e)
    (cond (eqb control 120) (silence channel e)
    (cond (eqb control 123) (off channel (held channel) e) e)))))

-- control change
unfoldable pub control_change : ℕ → ℕ → ℕ → Engine → Answered
control_change channel control value e =
    answer (cond (past_two channel control value) 2 0) e (done 0 (controlled channel control value e))
