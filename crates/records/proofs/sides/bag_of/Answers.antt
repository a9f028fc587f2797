-- `bag_of` meets its contract.
use Rattle.records.specs.Sides.{bag_of}
use Rattle.records.proofs.sides.bag_of.Goals as goal

pub returns : goal.returns
unfolding bag_of
returns c = cc
