-- `parts_of` meets its contract.
use Rattle.records.specs.Sides.{parts_of}
use Rattle.records.proofs.sides.parts_of.Goals as goal

pub returns : goal.returns
unfolding parts_of
returns c = cc
