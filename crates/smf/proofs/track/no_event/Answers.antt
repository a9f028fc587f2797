-- `no_event` meets its contract.
use Rattle.smf.proofs.track.no_event.Goals as goal

pub returns : goal.returns
returns c = simp c.no_cursor.ensures
