-- `write` meets its contract.
use mathlib.Core.List.{List, ◌++◌}
use mathlib.Core.Path.{◌≡◌}
use Prim.Native.Nat.{ℕ, ◌+◌, ◌≤◌}
use lib.ListN.{length}
use Rattle.merge.specs.declared.Entry.{Entry}
use Rattle.merge.specs.declared.Line.{Line}
use Rattle.merge.specs.declared.Tracks.{Tracks}
use Rattle.merge.specs.Internal.Lanes.{lane_sequence, Earliest}
use Rattle.merge.specs.Internal.Lines.{laid_over, line_bytes, line_start}
use Rattle.merge.proofs.OrderLaws.{Way, left_of}
use Rattle.merge.proofs.order.write.Given as goal

-- on the way: some bytes of the file are put down, and what is left gives the others
pub record Underway (b : List ℕ) (l : Tracks) (file out₀ : List ℕ) (start : ℕ) (out : List ℕ) (at : ℕ) (line : Line) (ticks : List ℕ) (entries : List Entry) (j : ℕ) : Type 0 where
  pub way : Way b l.count entries ticks
  pub next : Earliest ticks l.count j
  pub put : List ℕ
  pub there : at ≡ start + length put
  pub laid : out ≡ laid_over out₀ start put
  pub all : file ≡ put ++ line_bytes line (left_of b l.count entries)
  pub room : start + length file ≤ length out₀

abbrev pub invariant-loop-j : goal.invariant-loop-j
invariant-loop-j l = Underway l.b l.l (line_bytes line_start (lane_sequence l.b l.l)) l.initial.out l.initial.at l.out l.at l.line l.ticks l.entries l.j

abbrev pub decreases-loop-j : goal.decreases-loop-j
decreases-loop-j l = length (left_of l.b l.l.count l.entries)
