-- `is_late` meets its contract.
use mathlib.Core.Path.{sym, ap}
use borrow.Author.Tests.{lt-ltb}
use native.Mathlib.Omega.{arith}
use native.Mathlib.Nat.{lt_of_le_of_lt}
use Prim.Native.Nat.{ℕ, ◌+◌, ◌*◌}
use lib.Dec.{ltb, lit<}
use Rattle.smf.proofs.TicksLaws.{delta-in}
use Rattle.smf.proofs.ticks.is_late.Goals as goal

pub returns-then-high-sum : goal.returns-then-high-sum
returns-then-high-sum c = let s = c.args in
    sym (lt-ltb (3600000000 * s.division) (s.sum + s.ticks * s.tempo) (omega (arith, c.limit-high.ensures)))

pub overflow_mul-result : goal.overflow_mul-result
overflow_mul-result c = record { fits = lt_of_le_of_lt (delta-in c.args.ticks c.args.tempo c.requires c.ranges.tempo.fits) (lit< tt) }

pub overflow_add-result : goal.overflow_add-result
overflow_add-result c = let d = delta-in c.args.ticks c.args.tempo c.requires c.ranges.tempo.fits in
    omega (arith, d, c.limit-high.ensures)

pub returns : goal.returns
returns c = ap (λ (k : ℕ). ltb k (c.args.sum + c.args.ticks * c.args.tempo)) c.limit-high.ensures
