-- `data_size` meets its contract.
use mathlib.Core.Path.{refl, sym, ◌∙◌}
use native.Mathlib.Omega.{arith}
use Rattle.smf.specs.Spelling.{data_bytes}
use Rattle.merge.proofs.sizes.data_size.Goals as goal

pub returns-then-is_short : goal.returns-then-is_short
unfolding data_bytes
returns-then-is_short c = ((λ first second. rw (sym c.is_short.ensures ∙ c.if-is_short.true) refl), omega arith)

pub returns : goal.returns
unfolding data_bytes
returns c = ((λ first second. rw (sym c.is_short.ensures ∙ c.if-is_short.false) refl), omega arith)
