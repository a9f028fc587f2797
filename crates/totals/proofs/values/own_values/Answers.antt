-- `own_values` meets its contract.
use mathlib.Core.Path.{◌∙◌}
use Rattle.totals.specs.Internal.Values.{own_values}
use Rattle.totals.proofs.values.own_values.Goals as goal

pub returns : goal.returns
unfolding own_values
returns c = c.poured.ensures ∙ simp (c.poured-global.ensures, c.defaults.ensures)
