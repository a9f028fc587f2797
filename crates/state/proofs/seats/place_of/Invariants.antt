-- A turn looks at place k: the slot stands there, or behind.
use mathlib.Core.Path.{◌≡◌}
use Prim.Native.Nat.{◌≤◌}
use mathlib.Core.List.{map}
use lib.ListN.{length}
use Rattle.state.specs.Internal.Seats.{as_slot, first_at}
use Rattle.state.proofs.seats.place_of.Given as goal

abbrev pub invariant-loop-k : goal.invariant-loop-k
invariant-loop-k l = (length l.order ≡ 32) × (l.k ≤ first_at l.i (map as_slot l.order))
