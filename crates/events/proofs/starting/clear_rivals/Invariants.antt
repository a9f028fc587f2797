-- A turn frees slot i where it is a rival; the records stay, and the word is built anew.
use mathlib.Core.Path.{◌≡◌}
use lib.ListN.{length}
use Rattle.state.specs.Slots.{slots_of, cut}
use Rattle.events.specs.Starting.{rival}
use Rattle.state.proofs.SlotLoopLaws.{word_to}
use Rattle.events.proofs.starting.clear_rivals.Given as goal

abbrev pub invariant-loop-i : goal.invariant-loop-i
invariant-loop-i l = (length (slots_of l.e) ≡ 32) × (l.word ≡ word_to (cut (rival l.channel (l.voices))) l.i (slots_of l.e))
