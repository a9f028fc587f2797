-- `key_range` meets its contract.
use mathlib.Core.Path.{sym, ◌∙◌}
use Rattle.layers.specs.Ranges.{key_range}
use Rattle.layers.proofs.ranges.key_range.Goals as goal

pub returns-then-has_as : goal.returns-then-has_as
unfolding key_range
returns-then-has_as c = simp (sym c.has_as.ensures ∙ c.if-has_as.true) c.range_at.ensures

pub returns : goal.returns
unfolding key_range
returns c = simp (sym c.has_as.ensures ∙ c.if-has_as.false)
