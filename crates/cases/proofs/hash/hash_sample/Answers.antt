-- The definition, opened.
use Rattle.std.proofs.Common.{refl, to_z-of_z}
use Rattle.cases.specs.Internal.Hash.{hash_sample}
use Rattle.cases.proofs.hash.hash_sample.Goals as goal

pub returns : goal.returns
unfolding hash_sample
returns c = let e = rw (to_z-of_z c.ranges.s) at c.sample_bits-n.ensures in
    rw (c.hash_byte.ensures, c.hash_byte-low.ensures, e) refl
