-- Control 120: a turn frees slot i where it is of the channel; the records stay, and the word is built anew.
use mathlib.Core.Path.{◌≡◌}
use lib.ListN.{length}
use Rattle.state.specs.Slots.{slots_of, of_channel, cut}
use Rattle.state.proofs.SlotLoopLaws.{word_to}
use Rattle.events.proofs.controls.silenced.Given as goal

abbrev pub invariant-loop-i : goal.invariant-loop-i
invariant-loop-i l = (length (slots_of l.e) ≡ 32) × (l.word ≡ word_to (cut (of_channel l.channel)) l.i (slots_of l.e))
