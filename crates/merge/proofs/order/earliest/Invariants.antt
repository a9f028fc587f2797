-- `earliest` meets its contract.
use mathlib.Core.List.{List}
use mathlib.Core.Path.{◌≡◌}
use Prim.Native.Nat.{ℕ, ◌-◌, ◌<◌, ◌≤◌}
use Rattle.merge.specs.declared.Best.{Best}
use Rattle.merge.specs.Entries.{no_tick}
use Rattle.merge.specs.Internal.Lanes.{tick_at}
use Rattle.merge.proofs.order.earliest.Given as goal

-- the best of the first i
pub record Seen (ts : List ℕ) (n i : ℕ) (best : Best) : Type 0 where
  pub in-lanes : best.lane ≤ n
  pub some : best.tick ≤ no_tick
  pub least : (k : ℕ) → k < i → best.tick ≤ tick_at ts k
  pub first : best.lane < n → (k : ℕ) → k < best.lane → best.tick < tick_at ts k
  pub found : best.lane < n → (best.lane < i) × (best.tick ≡ tick_at ts best.lane) × (best.tick < no_tick)
  pub none : best.lane ≡ n → best.tick ≡ no_tick

abbrev pub invariant-loop-i : goal.invariant-loop-i
invariant-loop-i l = Seen l.ticks l.count l.i l.best
