-- Which of a channel's voices are let off, by note-off, 123, and lifting the pedal: one name for the three tests.
use Rattle.std.specs.Prelude.{ℕ, Bool, map}
use Rattle.voice.specs.declared.Slot.{Slot}
use Rattle.events.specs.declared.Whom.{Whom}
use Rattle.events.specs.declared.Whom.TheVariants.{Key, Every, Marked}
use Rattle.events.specs.Keys.{held, held_key, pedal_held, let_off}
use Rattle.arith.specs.Lists.{count_if}
use Rattle.state.specs.declared.Engine.{Engine}
use Rattle.state.specs.Answers.{Answered}
use Rattle.state.specs.Slots.{slots_of, with_slots}
use Rattle.state.specs.Answers.{done}

-- the slots that are picked
abbrev pub picked : ℕ → Whom → Slot → Bool
picked channel (Key key) = held_key channel key
picked channel Every = held channel
picked channel Marked = pedal_held channel

-- all that are picked let off, and how many they were
unfoldable pub off_all : ℕ → Whom → Bool → Engine → Answered
off_all channel whom down e =
    done (count_if (picked channel whom) (slots_of e)) (with_slots e (map (let_off down (picked channel whom)) (slots_of e)))
