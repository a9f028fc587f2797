-- A turn lets slot i off where it is picked, counts it, stores its record, and adds its flag to the word.
use mathlib.Core.Path.{◌≡◌}
use lib.ListN.{length}
use Rattle.arith.proofs.Loops.{upto, count_to}
use Rattle.state.specs.Slots.{slots_of, records_of}
use Rattle.events.specs.Keys.{let_off}
use Rattle.events.specs.Internal.Keys.{picked}
use Rattle.state.proofs.SlotLoopLaws.{word_to, with_voices}
use Rattle.events.proofs.keys.off_all.Given as goal

abbrev pub invariant-loop-i : goal.invariant-loop-i
invariant-loop-i l = (length (slots_of l.e) ≡ 32)
    × (l.x ≡ with_voices l.e (records_of (upto (let_off l.down (picked l.channel l.whom)) l.i (slots_of l.e))))
    × (l.word ≡ word_to (let_off l.down (picked l.channel l.whom)) l.i (slots_of l.e))
    × (l.count ≡ count_to (picked l.channel l.whom) l.i (slots_of l.e))
