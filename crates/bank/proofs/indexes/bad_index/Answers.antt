-- `bad_index` meets its contract.
use mathlib.Core.Path.{sym, ◌∙◌}
use Rattle.bank.specs.Indexes.{bad_at}
use Rattle.bank.proofs.indexes.bad_index.Goals as goal

pub returns-then-falls : goal.returns-then-falls
unfolding bad_at
returns-then-falls c = simp (sym c.falls.ensures ∙ c.if-falls.true)

pub returns : goal.returns
unfolding bad_at
returns c = simp (sym c.falls.ensures ∙ c.if-falls.false) c.ends_wrong.ensures
