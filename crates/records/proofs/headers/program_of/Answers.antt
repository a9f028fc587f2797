-- `program_of` meets its contract.
use Rattle.records.specs.Headers.{program_of}
use Rattle.records.proofs.headers.program_of.Goals as goal

pub returns : goal.returns
unfolding program_of
returns c = cc
