-- `track_from` meets its contract.
use mathlib.Core.Path.{◌≡◌}
use Prim.Native.Nat.{◌-◌, ◌≤◌}
use lib.ListN.{length}
use Rattle.smf.specs.Head.{track_from}
use Rattle.smf.proofs.head.track_from.Given as goal

abbrev pub invariant-loop-at : goal.invariant-loop-at
invariant-loop-at l = (track_from (length l.b) l.b l.from ≡ track_from (length l.b) l.b l.at) × (l.at ≤ length l.b)

abbrev pub decreases-loop-at : goal.decreases-loop-at
decreases-loop-at l = length l.b - l.at
