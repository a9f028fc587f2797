-- `next_from` meets its contract.
use mathlib.Core.Path.{◌≡◌}
use Prim.Native.Nat.{◌-◌}
use Rattle.smf.specs.Track.{edge_of, next_from}
use Rattle.smf.specs.Songs.{turns}
use Rattle.smf.proofs.track.next_from.Given as goal

abbrev pub invariant-loop-c : goal.invariant-loop-c
invariant-loop-c l = (next_from (turns l.b) l.b l.initial.c ≡ next_from (turns l.b) l.b l.c) × (l.edge ≡ edge_of l.b l.c)

abbrev pub decreases-loop-c : goal.decreases-loop-c
decreases-loop-c l = l.edge - l.c.at
