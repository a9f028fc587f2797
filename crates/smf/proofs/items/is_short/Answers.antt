-- `is_short` meets its contract.
use borrow.Author.Tests.{le-leb, lt-leb}
use Rattle.arith.specs.Holds.{between}
use Rattle.smf.proofs.items.is_short.Goals as goal

pub returns-then-status-ge192 : goal.returns-then-status-ge192
unfolding between
returns-then-status-ge192 c = simp (le-leb _ _ c.if-status-ge192.true)

pub returns-else-status-ge192 : goal.returns-else-status-ge192
unfolding between
returns-else-status-ge192 c = simp (lt-leb _ _ c.if-status-ge192.false)
