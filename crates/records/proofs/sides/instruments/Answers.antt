-- `instruments` meets its contract.
use Rattle.records.specs.Sides.{instruments}
use Rattle.records.proofs.sides.instruments.Goals as goal

pub returns : goal.returns
unfolding instruments
returns c = cc
