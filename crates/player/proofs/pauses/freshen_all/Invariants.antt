-- One channel a turn.
use Rattle.std.proofs.Common.{◌≡◌}
use Rattle.player.specs.Pauses.{freshened_to}
use Rattle.player.proofs.pauses.freshen_all.Given as goal

abbrev pub invariant-loop-channel : goal.invariant-loop-channel
invariant-loop-channel l = l.x ≡ freshened_to l.channel l.initial.x
