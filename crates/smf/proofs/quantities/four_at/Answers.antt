-- `four_at` meets its contract.
use borrow.Author.Rules.{rules}
use Rattle.smf.specs.Quantities.{four_at}
use Rattle.smf.proofs.quantities.four_at.Goals as goal

pub returns : goal.returns
unfolding four_at
returns c = search rules
