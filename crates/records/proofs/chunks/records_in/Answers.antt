-- `records_in` meets its contract.
use Rattle.records.specs.Chunks.{records, bytes_in}
use Rattle.records.proofs.chunks.records_in.Goals as goal

pub returns : goal.returns
unfolding records bytes_in
returns c = cc
