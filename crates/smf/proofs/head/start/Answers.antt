-- `start` meets its contract.
use Rattle.smf.proofs.head.start.Goals as goal

pub returns : goal.returns
returns c = simp c.two_at.ensures
