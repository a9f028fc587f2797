-- An odd count first, then the search.
use borrow.Author.Tests.{eq-eqb, ne_eqb}
use mathlib.Core.Path.{refl, ◌∙◌}
use Rattle.wave.specs.Pours.{is_broken}
use Rattle.wave.proofs.PoursLaws.{any_is}
use Rattle.wave.proofs.pours.is_broken.Goals as goal

pub returns-then-numbers-eq1 : goal.returns-then-numbers-eq1
unfolding is_broken
returns-then-numbers-eq1 c = rw (eq-eqb _ _ c.if-numbers-eq1.true) refl

pub returns : goal.returns
unfolding is_broken
returns c = rw (ne_eqb _ _ c.if-numbers-eq1.false) (c.has_other.ensures ∙ any_is c.args.numbers.now)
