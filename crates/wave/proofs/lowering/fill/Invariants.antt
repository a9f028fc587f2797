-- The bytes of the first i sums stand in front, two for each.
use mathlib.Core.Path.{◌≡◌}
use mathlib.Core.List.{◌++◌}
use Prim.Native.Nat.{◌*◌}
use lib.ListN.{length, take, drop}
use Rattle.wave.specs.Lowering.{poured_sums}
use Rattle.wave.proofs.lowering.fill.Given as goal

abbrev pub invariant-loop-i : goal.invariant-loop-i
invariant-loop-i l = (length l.out ≡ length l.initial.out) × (l.out ≡ poured_sums l.g (take l.i l.sums) ++ drop (2 * l.i) l.initial.out)
