-- `added_values` meets its contract.
use mathlib.Core.Path.{◌∙◌}
use Rattle.totals.specs.Internal.Values.{added_values}
use Rattle.totals.proofs.values.added_values.Goals as goal

pub returns : goal.returns
unfolding added_values
returns c = c.poured.ensures ∙ simp c.poured-global.ensures
