-- A turn adds one plain frame behind those that are added.
use mathlib.Core.Path.{◌≡◌}
use Prim.Native.Nat.{ℕ, ◌+◌, ◌-◌, ◌*◌, ◌<◌, ◌≤◌}
use lib.ListN.{length}
use Rattle.voice.specs.Internal.Stretch.{plains}
use Rattle.voice.specs.Internal.Sums.{add_at, Small}
use Rattle.voice.proofs.stretch.glide.Given as goal

abbrev pub invariant-loop-p : goal.invariant-loop-p
invariant-loop-p l = (l.m ≤ l.most)
    × (l.p ≡ l.from + l.m * l.st)
    × ((j : ℕ) → j < l.m → l.from + j * l.st < l.limit)
    × (l.acc ≡ add_at (2 * l.k) (plains l.gain l.sides.left l.sides.right l.w l.st l.from l.m) l.initial.acc)
    × (length l.acc ≡ length l.initial.acc)
    × (2 * (l.k + l.most) ≤ length l.initial.acc)
    × Small 1 (plains l.gain l.sides.left l.sides.right l.w l.st l.from l.m)

abbrev pub decreases-loop-p : goal.decreases-loop-p
decreases-loop-p l = l.end - l.p
