-- A turn looks at place k of the order, from the oldest on.
use mathlib.Core.Path.{◌≡◌}
use Prim.Native.Nat.{◌<◌}
use lib.ListN.{length, take}
use Rattle.state.specs.Seats.{order_of, claim, least_by}
use Rattle.state.proofs.seats.taken_slot.Given as goal

abbrev pub invariant-loop-k : goal.invariant-loop-k
invariant-loop-k l = (length (order_of l.e) ≡ 32) × (l.b ≡ least_by (claim l.e l.mine) l.initial.b (take l.k (order_of l.e))) × (l.b < 32)
