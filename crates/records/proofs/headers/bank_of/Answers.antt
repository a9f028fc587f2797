-- `bank_of` meets its contract.
use Rattle.records.specs.Headers.{bank_of}
use Rattle.records.proofs.headers.bank_of.Goals as goal

pub returns : goal.returns
unfolding bank_of
returns c = cc
