-- `mod_of` meets its contract.
use Rattle.records.specs.Sides.{mod_of}
use Rattle.records.proofs.sides.mod_of.Goals as goal

pub returns : goal.returns
unfolding mod_of
returns c = c.u16_at.ensures
