-- 01, "A voice, frame by frame", last paragraph, and the table: the panel asks for a slot.
use Rattle.std.specs.Prelude.{ℕ, cond, ltb}
use Rattle.voice.specs.declared.Shown.{Shown}
use Rattle.voice.specs.Panel.{shown}
use Rattle.state.specs.declared.Engine.{Engine}
use Rattle.state.specs.Slots.{slot_at, slots_of}
use Rattle.arith.specs.Lists.{count_if}
use Rattle.voice.specs.declared.Slot.{Slot}
use Rattle.voice.specs.declared.Shown.TheVariants as is

-- what it is told; a slot past 31 is refused, 2 (`shown_number`)
unfoldable pub ask : ℕ → Engine → Shown
ask slot e = cond (ltb 31 slot) is.Refused (shown (slot_at e slot))

-- how many voices sound
unfoldable pub voice_count : Engine → ℕ
voice_count e = count_if (λ (s : Slot). s.sounding) (slots_of e)
