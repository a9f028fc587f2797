-- A turn adds the next frames behind those that are added; where the voice is freed those that are left add nothing.
use mathlib.Core.Path.{◌≡◌}
use Prim.Native.Nat.{◌-◌, ◌*◌, ◌≤◌}
use lib.ListN.{length}
use Rattle.voice.specs.Internal.Frames.{after_at, heard_at}
use Rattle.voice.specs.Internal.Sums.{add_to, Small}
use Rattle.voice.proofs.frames.run_at.Given as goal

abbrev pub invariant-loop-k : goal.invariant-loop-k
invariant-loop-k l = (l.s ≡ after_at l.st l.l l.w l.k l.initial.s)
    × (l.acc ≡ add_to (heard_at l.st l.l l.w l.k l.initial.s) l.initial.acc)
    × (length l.acc ≡ length l.initial.acc)
    × (l.k ≤ l.n)
    × (2 * l.n ≤ length l.initial.acc)
    × Small 1 (heard_at l.st l.l l.w l.k l.initial.s)

abbrev pub decreases-loop-k : goal.decreases-loop-k
decreases-loop-k l = l.n - l.k
