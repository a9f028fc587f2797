-- `has` meets its contract.
use Rattle.records.specs.Zones.{has}
use Rattle.records.proofs.zones.has.Goals as goal

pub returns : goal.returns
unfolding has
returns c = cc
