-- `area` meets its contract.
use Rattle.layers.specs.Spans.{area_of}
use Rattle.layers.proofs.spans.area.Goals as goal

pub returns : goal.returns
unfolding area_of
returns c = cc
