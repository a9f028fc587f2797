-- `range_at` meets its contract.
use Rattle.layers.specs.Ranges.{range_at}
use Rattle.layers.proofs.ranges.range_at.Goals as goal

pub returns : goal.returns
unfolding range_at
returns c = cc
