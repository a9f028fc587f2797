-- The largest of the sizes so far.
use mathlib.Core.Path.{◌≡◌}
use lib.ListN.{take}
use Rattle.wave.specs.Lowering.{loudest_of}
use Rattle.wave.proofs.lowering.loudest_of.Given as goal

abbrev pub invariant-loop-z : goal.invariant-loop-z
invariant-loop-z l = l.most ≡ loudest_of (take l.z-index l.sums)
