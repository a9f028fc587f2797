-- `tally_start` meets its contract.
use Rattle.merge.proofs.order.tally_start.Goals as goal

pub returns : goal.returns
returns c = simp c.line_start.ensures
