-- `put_bridges` meets its contract.
use mathlib.Core.Path.{◌≡◌}
use Prim.Native.Nat.{◌+◌, ◌-◌, ◌≤◌}
use lib.ListN.{length}
use Rattle.merge.specs.Internal.Lines.{laid_over, bridge_bytes}
use Rattle.merge.proofs.pages.put_bridges.Given as goal

-- k bridges are put down
abbrev pub invariant-loop-k : goal.invariant-loop-k
invariant-loop-k l = (l.out ≡ laid_over l.initial.out l.at (bridge_bytes l.tempo l.k)) × (l.p ≡ l.at + length (bridge_bytes l.tempo l.k)) × (length l.out ≡ length l.initial.out)
