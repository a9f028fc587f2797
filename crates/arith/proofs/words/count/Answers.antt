-- The ones of a word of 32 bits are at most 32.
use mathlib.Core.Path.{refl}
use lib.Count.{ones-le}
use Rattle.arith.proofs.words.count.Goals as goal

pub returns : goal.returns
returns c = (refl, ones-le 32 c.args.word c.ranges.word.fits)
