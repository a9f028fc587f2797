-- `exclusive_at` meets its contract.
use mathlib.Core.Path.{refl, sym, ◌∙◌}
use borrow.Author.Tests.{lt-ltb, le-ltb}
use Rattle.smf.specs.Items.{exclusive_at}
use Rattle.smf.proofs.items.exclusive_at.Goals as goal

pub returns-then-edge-q : goal.returns-then-edge-q
unfolding exclusive_at
returns-then-edge-q c = rw (sym c.quantity_at.ensures.0 ∙ c.in-Some.is, exclusive_at, lt-ltb _ _ c.if-edge-q.true) refl

pub returns-in_default : goal.returns-in_default
unfolding exclusive_at
returns-in_default c = rw (sym c.quantity_at.ensures.0 ∙ c.in_default.is, exclusive_at) refl

pub returns : goal.returns
unfolding exclusive_at
returns c = rw (sym c.quantity_at.ensures.0 ∙ c.in-Some.is, exclusive_at, le-ltb _ _ c.if-edge-q.false) refl
