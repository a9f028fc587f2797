-- `better` meets its contract.
use mathlib.Core.Path.{refl}
use borrow.Author.Tests.{lt-ltb, le-ltb}
use Rattle.merge.specs.Internal.Lanes.{better_of}
use Rattle.merge.proofs.order.better.Goals as goal

pub returns-then-tick-best : goal.returns-then-tick-best
unfolding better_of
returns-then-tick-best c = rw (lt-ltb _ _ c.if-tick-best.true) refl

pub returns : goal.returns
unfolding better_of
returns c = rw (le-ltb _ _ c.if-tick-best.false) refl
