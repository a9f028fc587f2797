-- The trailing zeros of the complement are the lowest clear slot.
use Rattle.arith.proofs.WordsLaws.{lowest-zeros}
use Rattle.arith.proofs.words.lowest_clear.Goals as goal

pub returns : goal.returns
returns c = lowest-zeros 32 c.args.word c.ranges.word.fits
