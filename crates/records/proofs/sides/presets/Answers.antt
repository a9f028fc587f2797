-- `presets` meets its contract.
use Rattle.records.specs.Sides.{presets}
use Rattle.records.proofs.sides.presets.Goals as goal

pub returns : goal.returns
unfolding presets
returns c = cc
