-- `play` meets its contract.
use borrow.Author.Tests.{eq-eqb, ne_eqb}
use Rattle.totals.specs.Settings.{play_mode}
use Rattle.layers.proofs.extent.play.Goals as goal

pub returns-then-mode-eq2 : goal.returns-then-mode-eq2
unfolding play_mode
returns-then-mode-eq2 c = simp (eq-eqb _ _ c.if-mode-eq2.true)

pub returns : goal.returns
unfolding play_mode
returns c = simp (ne_eqb _ _ c.if-mode-eq2.false)
