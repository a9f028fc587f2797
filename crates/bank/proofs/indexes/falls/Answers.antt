-- `falls` meets its contract.
use borrow.Author.Tests.{lt-ltb, le-ltb}
use Rattle.bank.specs.Indexes.{falls_at}
use Rattle.bank.proofs.indexes.falls.Goals as goal

pub returns-then-i-gt0 : goal.returns-then-i-gt0
unfolding falls_at
returns-then-i-gt0 c = simp (lt-ltb _ _ c.if-i-gt0.true)

pub returns : goal.returns
unfolding falls_at
returns c = simp (le-ltb _ _ c.if-i-gt0.false)
