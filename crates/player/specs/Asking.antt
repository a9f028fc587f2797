-- The player: what a host asks.
use Rattle.std.specs.Prelude.{ℕ, Bool, ◌==◌}
use Rattle.arith.specs.Lists.{count_if}
use Rattle.voice.specs.declared.Slot.{Slot}
use Rattle.state.specs.Slots.{slots_of}
use Rattle.events.specs.Keys.{held}
use Rattle.player.specs.declared.Player.{Player}

-- a held voice, of whatever channel
abbrev pub is_held : Slot → Bool
is_held s = held s.voice.channel s

-- no voice sounds: the word is 0
abbrev pub is_silent : Player → Bool
is_silent p = p.engine.sounding == 0

-- how many voices are held
abbrev pub held_count : Player → ℕ
held_count p = count_if is_held (slots_of p.engine)
