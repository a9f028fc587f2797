-- `two_at` meets its contract.
use borrow.Author.Rules.{rules}
use Rattle.smf.specs.Quantities.{two_at}
use Rattle.smf.proofs.quantities.two_at.Goals as goal

pub returns : goal.returns
unfolding two_at
returns c = search rules
