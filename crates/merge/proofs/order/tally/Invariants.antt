-- `tally` meets its contract.
use mathlib.Core.List.{List}
use mathlib.Core.Path.{◌≡◌}
use Prim.Native.Nat.{ℕ, ◌+◌, ◌≤◌}
use lib.ListN.{length}
use Rattle.merge.specs.declared.Entry.{Entry}
use Rattle.merge.specs.declared.Tally.{Tally}
use Rattle.merge.specs.declared.Tracks.{Tracks}
use Rattle.merge.specs.Internal.Lanes.{lane_sequence, Earliest}
use Rattle.merge.specs.Internal.Order.{tally_start, tally_of}
use Rattle.merge.proofs.OrderLaws.{Way, left_of}
use Rattle.merge.proofs.order.tally.Given as goal

-- on the way: what is left, told behind what is told, gives what all of it gives
pub record Underway (b : List ℕ) (l : Tracks) (limit : ℕ) (ticks : List ℕ) (entries : List Entry) (t : Tally) (j : ℕ) : Type 0 where
  pub way : Way b l.count entries ticks
  pub next : Earliest ticks l.count j
  pub told : tally_of tally_start (lane_sequence b l) limit ≡ tally_of t (left_of b l.count entries) limit
  pub sum : t.hour.sum ≤ limit + 1
  pub size : t.size ≤ 4294967318

abbrev pub invariant-loop-j : goal.invariant-loop-j
invariant-loop-j l = Underway l.b l.l l.limit l.ticks l.entries l.t l.j

abbrev pub decreases-loop-j : goal.decreases-loop-j
decreases-loop-j l = length (left_of l.b l.l.count l.entries)
