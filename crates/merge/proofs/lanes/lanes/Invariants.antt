-- `lanes` meets its contract.
use mathlib.Core.List.{List, ◌++◌}
use mathlib.Core.Path.{◌≡◌}
use Prim.Native.Nat.{ℕ, ◌+◌, ◌-◌, ◌≤◌}
use lib.ListN.{length, take}
use Rattle.merge.specs.declared.Entry.{Entry}
use Rattle.merge.specs.Lanes.{lanes_from, flaw_in}
use Rattle.merge.proofs.OrderLaws.{Way}
use Rattle.merge.proofs.lanes.lanes.Given as goal

-- k tracks stand there, and the others follow from a place on
pub record Standing (b : List ℕ) (count from : ℕ) (ticks : List ℕ) (entries : List Entry) (at k : ℕ) : Type 0 where
  pub few : k ≤ count
  pub place : at ≤ length b
  pub way : Way b k entries ticks
  pub lanes : lanes_from count b from ≡ take k entries ++ lanes_from (count - k) b at
  pub flaw : flaw_in count b from ≡ flaw_in (count - k) b at

abbrev pub invariant-loop-k : goal.invariant-loop-k
invariant-loop-k l = Standing l.b l.count l.from l.ticks l.entries l.at l.k
