-- A turn fills place k of the renewed order.
use mathlib.Core.Path.{◌≡◌}
use mathlib.Core.List.{map}
use lib.ListN.{length, take}
use Rattle.state.specs.Seats.{renewed}
use Rattle.state.specs.Internal.Seats.{as_slot}
use Rattle.state.proofs.seats.renewed_order.Given as goal

abbrev pub invariant-loop-k : goal.invariant-loop-k
invariant-loop-k l = (length l.order ≡ 32)
    × (length l.out ≡ 32)
    × (take l.k l.out ≡ take l.k (renewed l.i (map as_slot l.order)))
