-- `obey` meets its contract.
use borrow.Author.Tests.{ltb-false}
use mathlib.Core.Path.{refl, sym, ◌∙◌}
use Rattle.smf.specs.Track.{obeyed}
use Rattle.smf.proofs.track.obey.Goals as goal

pub returns-then-is_bad : goal.returns-then-is_bad
unfolding obeyed
returns-then-is_bad c = rw (sym c.is_bad.ensures ∙ c.if-is_bad.true) refl

pub returns-then-is_late : goal.returns-then-is_late
unfolding obeyed
returns-then-is_late c = rw (sym c.is_bad.ensures ∙ c.if-is_bad.false, sym c.is_late.ensures ∙ c.if-is_late.true) refl

pub sum_after-requires : goal.sum_after-requires
sum_after-requires c = ltb-false _ _ (sym c.is_late.ensures ∙ c.if-is_late.false)

pub returns : goal.returns
unfolding obeyed
returns c = rw (sym c.is_bad.ensures ∙ c.if-is_bad.false, sym c.is_late.ensures ∙ c.if-is_late.false) (rw c.sum_after.ensures at c.acted_at.ensures)
