-- `put_tempo` meets its contract.
use Rattle.smf.specs.Spelling.{three_bytes}
use Rattle.merge.proofs.pages.put_tempo.Goals as goal

pub returns : goal.returns
unfolding three_bytes
returns c = record { value = c.put.ensures.value; output = c.put.ensures.output }
