-- `three_at` meets its contract.
use borrow.Author.Rules.{rules}
use Rattle.smf.specs.Quantities.{three_at}
use Rattle.smf.proofs.quantities.three_at.Goals as goal

pub returns : goal.returns
unfolding three_at
returns c = search rules
