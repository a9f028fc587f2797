-- `spoken_at` meets its contract.
use mathlib.Core.Path.{sym, ◌∙◌}
use Rattle.smf.specs.Items.{spoken_at}
use Rattle.smf.proofs.items.spoken_at.Goals as goal

pub returns-then-is_short : goal.returns-then-is_short
unfolding spoken_at
returns-then-is_short c = rw (sym c.is_short.ensures ∙ c.if-is_short.true) c.short_at.ensures

pub returns : goal.returns
unfolding spoken_at
returns c = rw (sym c.is_short.ensures ∙ c.if-is_short.false) c.long_at.ensures
