-- `good_rate` meets its contract.
use borrow.Author.Tests.{le-leb, lt-leb}
use Rattle.arith.specs.Holds.{between}
use Rattle.bank.proofs.rates.good_rate.Goals as goal

pub returns-then-rate-ge400 : goal.returns-then-rate-ge400
unfolding between
returns-then-rate-ge400 c = simp (le-leb _ _ c.if-rate-ge400.true)

pub returns : goal.returns
unfolding between
returns c = simp (lt-leb _ _ c.if-rate-ge400.false)
