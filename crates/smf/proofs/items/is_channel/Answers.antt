-- `is_channel` meets its contract.
use borrow.Author.Tests.{le-leb, lt-leb}
use Rattle.arith.specs.Holds.{between}
use Rattle.smf.proofs.items.is_channel.Goals as goal

pub returns-then-status-ge128 : goal.returns-then-status-ge128
unfolding between
returns-then-status-ge128 c = simp (le-leb _ _ c.if-status-ge128.true)

pub returns-else-status-ge128 : goal.returns-else-status-ge128
unfolding between
returns-else-status-ge128 c = simp (lt-leb _ _ c.if-status-ge128.false)
