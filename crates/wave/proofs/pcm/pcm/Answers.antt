-- An output number is no NaN, and its bits are what `pcm-bits` says.
use mathlib.Core.Path.{ap, subst, ◌∙◌}
use lib.Ieee.{binary32, to_bits}
use Rattle.wave.specs.Internal.Pcm.{word_of}
use lib.Dec.{T, leb}
use Rattle.wave.proofs.PcmLaws.{no_nan, output-bits, pcm-bits}
use Rattle.wave.proofs.pcm.pcm.Goals as goal

pub float_to_bits-bits : goal.float_to_bits-bits
float_to_bits-bits c = no_nan c.args.x c.requires

pub k_of_bits-requires : goal.k_of_bits-requires
k_of_bits-requires c = subst T (output-bits c.args.x c.well_formed.0.1) c.requires

pub returns : goal.returns
returns c = c.word_of.ensures
    ∙ ap (word_of (leb 2147483648 (to_bits binary32 c.args.x))) c.k_of_bits.ensures.value
    ∙ pcm-bits c.args.x c.well_formed.0.1 (subst T (output-bits c.args.x c.well_formed.0.1) c.requires)
