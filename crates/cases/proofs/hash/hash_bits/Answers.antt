-- The definition, opened.
use Rattle.cases.specs.Internal.Hash.{hash_bits}
use Rattle.cases.proofs.hash.hash_bits.Goals as goal

pub returns : goal.returns
unfolding hash_bits
returns c = cc
