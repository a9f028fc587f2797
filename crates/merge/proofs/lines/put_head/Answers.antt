-- `put_head` meets its contract.
use Rattle.smf.specs.Spelling.{two_bytes, four_bytes}
use Rattle.merge.proofs.lines.put_head.Goals as goal

pub returns : goal.returns
unfolding two_bytes four_bytes
returns c = record { value = c.put.ensures.value; output = c.put.ensures.output }
