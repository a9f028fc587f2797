-- A turn runs slot i into the sums, stores its record, and adds its flag to the word.
use Rattle.std.proofs.Common.{◌≡◌, ◌*◌, ◌≤◌, length, take}
use Rattle.arith.proofs.Loops.{upto}
use Rattle.voice.specs.Internal.Sums.{Small}
use Rattle.state.specs.Slots.{slots_of, records_of}
use Rattle.engine.specs.Rendering.{slot_after}
use Rattle.state.proofs.SlotLoopLaws.{word_to, with_voices}
use Rattle.engine.specs.Internal.Sums.{slot_heard, add_all}
use Rattle.engine.proofs.adding.run_all.Given as goal

abbrev pub invariant-loop-i : goal.invariant-loop-i
invariant-loop-i l = (length (slots_of l.e) ≡ 32)
    × (l.x ≡ with_voices l.e (records_of (upto (slot_after l.ram l.rom l.e l.n) l.i (slots_of l.e))))
    × (l.word ≡ word_to (slot_after l.ram l.rom l.e l.n) l.i (slots_of l.e))
    × (l.acc ≡ add_all (slot_heard l.ram l.rom l.e l.n) (take l.i (slots_of l.e)) l.initial.acc)
    × Small l.i l.acc
    × (length l.acc ≡ length l.initial.acc)
    × (2 * l.n ≤ length l.initial.acc)
