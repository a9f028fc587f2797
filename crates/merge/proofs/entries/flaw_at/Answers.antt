-- `flaw_at` meets its contract.
use mathlib.Core.Path.{refl, sym, ◌∙◌}
use Rattle.merge.specs.Internal.Entries.{flaw_at}
use Rattle.merge.proofs.entries.flaw_at.Goals as goal

pub returns-then-is_bad : goal.returns-then-is_bad
unfolding flaw_at
returns-then-is_bad c = rw (sym c.is_bad.ensures ∙ c.if-is_bad.true) refl

pub returns : goal.returns
unfolding flaw_at
returns c = rw (sym c.is_bad.ensures ∙ c.if-is_bad.false) refl
