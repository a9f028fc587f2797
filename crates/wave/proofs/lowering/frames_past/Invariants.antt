-- The held ones of the first k frames are counted.
use mathlib.Core.Path.{◌≡◌}
use Prim.Native.Nat.{◌*◌, ◌≤◌}
use lib.ListN.{length, take}
use Rattle.wave.specs.Lowering.{frames_past}
use Rattle.wave.proofs.lowering.frames_past.Given as goal

abbrev pub invariant-loop-k : goal.invariant-loop-k
invariant-loop-k l = (l.count ≡ frames_past l.g (take (2 * l.k) l.sums)) × (l.count ≤ l.k) × (2 * l.n ≡ length l.sums)
