-- `next` meets its contract.
use Rattle.smf.specs.Songs.{handed_of}
use Rattle.smf.proofs.next.Goals as goal

pub returns : goal.returns
unfolding handed_of
returns c = c.next_from.ensures
