-- A number that is not itself is a NaN.
use Rattle.std.proofs.Common.{sym, ◌∙◌}
use Rattle.cases.specs.Internal.Hash.{bits_of}
use Rattle.cases.proofs.HashLaws.{self}
use Rattle.cases.proofs.hash.bits_of.Goals as goal

pub float_to_bits-result : goal.float_to_bits-result
float_to_bits-result c = rw (sym (self c.args.x), c.if-x.false) tt

pub returns-then-x : goal.returns-then-x
unfolding bits_of
returns-then-x c = simp (sym (self c.args.x) ∙ c.if-x.true)

pub returns-else-x : goal.returns-else-x
unfolding bits_of
returns-else-x c = simp (sym (self c.args.x) ∙ c.if-x.false)
