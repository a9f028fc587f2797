-- `operator` meets its contract.
use Rattle.records.specs.Sides.{operator}
use Rattle.records.proofs.amounts.operator.Goals as goal

pub returns : goal.returns
unfolding operator
returns c = c.u16_at.ensures
