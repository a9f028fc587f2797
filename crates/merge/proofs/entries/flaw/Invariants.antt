-- `flaw` meets its contract.
use mathlib.Core.Path.{◌≡◌}
use Prim.Native.Nat.{◌-◌}
use lib.ListN.{length}
use Rattle.smf.specs.Songs.{turns}
use Rattle.merge.specs.Entries.{flaw_from}
use Rattle.merge.specs.Internal.Entries.{Settled}
use Rattle.merge.proofs.entries.flaw.Given as goal

abbrev pub invariant-loop-x : goal.invariant-loop-x
invariant-loop-x l = (flaw_from (turns l.b) l.b l.initial.x ≡ flaw_from (turns l.b) l.b l.x) × Settled l.b l.x × (l.item ≡ l.x.item)

abbrev pub decreases-loop-x : goal.decreases-loop-x
decreases-loop-x l = length l.b - l.x.place
