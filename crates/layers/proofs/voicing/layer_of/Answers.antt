-- `layer_of` meets its contract.
use Rattle.layers.specs.LayerSearch.{layer_of}
use Rattle.layers.proofs.voicing.layer_of.Goals as goal

pub returns : goal.returns
unfolding layer_of
returns c = cc
