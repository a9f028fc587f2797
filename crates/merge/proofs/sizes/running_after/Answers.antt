-- `running_after` meets its contract.
use mathlib.Core.Path.{refl, sym, ◌∙◌}
use borrow.Author.Tests.{eq-eqb, ne_eqb}
use Rattle.merge.specs.Internal.Lines.{running_after}
use Rattle.merge.proofs.sizes.running_after.Goals as goal

pub returns-then-bridges-eq0 : goal.returns-then-bridges-eq0
unfolding running_after
returns-then-bridges-eq0 c = rw (eq-eqb _ _ (sym c.bridges.ensures.0 ∙ c.if-bridges-eq0.true)) refl

pub returns : goal.returns
unfolding running_after
returns c = rw (ne_eqb _ _ (λ e. c.if-bridges-eq0.false (c.bridges.ensures.0 ∙ e))) refl
