-- `first` meets its contract.
use mathlib.Core.Path.{◌≡◌}
use Prim.Native.Nat.{◌-◌, ◌≤◌}
use Rattle.riff.specs.Chunks.{first_at}
use Rattle.riff.proofs.chunks.first.Given as goal

abbrev pub invariant-loop-end : goal.invariant-loop-end
invariant-loop-end l = (first_at l.b l.end l.name l.kind l.from ≡ first_at l.b l.end l.name l.kind l.at) × (l.at ≤ l.end)

abbrev pub decreases-loop-end : goal.decreases-loop-end
decreases-loop-end l = l.end - l.at
