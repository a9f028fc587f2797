-- The player: what a channel event of a song does. It is the direct call that the event names.
use Rattle.std.specs.Prelude.{ℕ, ◌+◌, ◌*◌, ◌/◌, ◌%◌, cond, List, ℤ, ◌==◌}
use Rattle.smf.specs.declared.Event.{Event}
use Rattle.state.specs.Answers.{Answered}
use Rattle.state.specs.declared.Engine.{Engine}
use Rattle.state.specs.Answers.{done}
use Rattle.events.specs.Keys.{note_off}
use Rattle.events.specs.Striking.{note_on, bank_from}
use Rattle.events.specs.Controls.{control_change}
use Rattle.events.specs.Programs.{program_change}
use Rattle.events.specs.Bends.{pitch_bend}

-- the kind of an event: the high four bits of its status
abbrev pub kind_of : Event → ℕ
kind_of v = v.status / 16

-- its channel: the low four
abbrev pub channel_in : Event → ℕ
channel_in v = v.status % 16

-- its two data bytes as a bend, the low seven bits first
abbrev pub bend_in : Event → ℕ
bend_in v = v.first + 128 * v.second

-- the call of a kind: 8 note-off, 9 note-on, 11 control change, 12 program change, 14 pitch bend. Key and channel pressure, 10 and 13, have none: they are done
unfoldable pub heeded_as : ℕ → List ℕ → List ℤ → List ℤ → Event → Engine → Answered
heeded_as kind bank ram rom v e =
    cond (kind == 8) (note_off (channel_in v) v.first e)
    (cond (kind == 9) (note_on (bank_from bank) ram rom (channel_in v) v.first v.second e)
    (cond (kind == 11) (control_change (channel_in v) v.first v.second e)
    (cond (kind == 12) (program_change (channel_in v) v.first e)
    (cond (kind == 14) (pitch_bend (channel_in v) (bend_in v) e)
    (done 0 e)))))

-- the call of an event, made on an engine
abbrev pub heeded : List ℕ → List ℤ → List ℤ → Event → Engine → Answered
heeded bank ram rom v e = heeded_as (kind_of v) bank ram rom v e
