-- A slot put in by a mask.
use mathlib.Core.Path.{refl}
use Rattle.arith.proofs.WordsLaws.{insert, one_shl}
use Rattle.arith.proofs.words.insert.Goals as goal

pub overflow_shl-result : goal.overflow_shl-result
overflow_shl-result c = c.requires

pub returns : goal.returns
returns c = rw (one_shl 32 c.args.slot c.requires) (refl, insert c.args.word c.args.slot)
