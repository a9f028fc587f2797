-- The definition, opened.
use Rattle.cases.specs.Internal.Hash.{hash_byte}
use Rattle.cases.proofs.hash.hash_byte.Goals as goal

pub returns : goal.returns
unfolding hash_byte
returns c = c.times.ensures
