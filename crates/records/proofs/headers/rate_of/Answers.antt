-- `rate_of` meets its contract.
use Rattle.records.specs.Headers.{rate_of}
use Rattle.records.proofs.headers.rate_of.Goals as goal

pub returns : goal.returns
unfolding rate_of
returns c = cc
