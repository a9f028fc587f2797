-- One slot a turn.
use Rattle.std.proofs.Common.{◌≡◌, length}
use Rattle.arith.proofs.Loops.{count_to}
use Rattle.state.specs.Slots.{slots_of}
use Rattle.player.specs.Asking.{is_held}
use Rattle.player.proofs.asking.held_in.Given as goal

abbrev pub invariant-loop-i : goal.invariant-loop-i
invariant-loop-i l = (length (slots_of l.e) ≡ 32) × (l.count ≡ count_to is_held l.i (slots_of l.e))
