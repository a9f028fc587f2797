-- `amount` meets its contract.
use Rattle.records.specs.Sides.{amount}
use Rattle.records.proofs.zones.amount.Goals as goal

pub returns : goal.returns
unfolding amount
returns c = c.u16_at.ensures
