-- `loops` meets its contract.
use borrow.Author.Tests.{eq-eqb, ne_eqb}
use Rattle.records.specs.Windows.{loops}
use Rattle.records.proofs.windows.loops.Goals as goal

pub returns-then-mode-eq1 : goal.returns-then-mode-eq1
unfolding loops
returns-then-mode-eq1 c = simp (eq-eqb _ _ c.if-mode-eq1.true)

pub returns-else-mode-eq1 : goal.returns-else-mode-eq1
unfolding loops
returns-else-mode-eq1 c = simp (ne_eqb _ _ c.if-mode-eq1.false)
