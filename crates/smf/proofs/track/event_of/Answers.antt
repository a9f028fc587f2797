-- `event_of` meets its contract.
use Rattle.smf.proofs.track.event_of.Goals as goal

pub returns : goal.returns
returns c = simp c.frame_of.ensures
