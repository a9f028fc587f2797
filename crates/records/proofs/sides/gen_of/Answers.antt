-- `gen_of` meets its contract.
use Rattle.records.specs.Sides.{gen_of}
use Rattle.records.proofs.sides.gen_of.Goals as goal

pub returns : goal.returns
unfolding gen_of
returns c = c.u16_at.ensures
