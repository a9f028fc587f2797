-- `ends_wrong` meets its contract.
use borrow.Author.Tests.{eq-eqb, ne_eqb}
use Rattle.bank.specs.Indexes.{ends_wrong}
use Rattle.bank.proofs.indexes.ends_wrong.Goals as goal

pub returns-then-i-n : goal.returns-then-i-n
unfolding ends_wrong
returns-then-i-n c = simp (eq-eqb _ _ c.if-i-n.true)

pub returns : goal.returns
unfolding ends_wrong
returns c = simp (ne_eqb _ _ c.if-i-n.false)
