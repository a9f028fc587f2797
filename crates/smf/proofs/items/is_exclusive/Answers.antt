-- `is_exclusive` meets its contract.
use mathlib.Core.Path.{refl}
use borrow.Author.Tests.{eq-eqb, ne_eqb}
use Rattle.smf.proofs.items.is_exclusive.Goals as goal

pub returns-then-x-eq240 : goal.returns-then-x-eq240
returns-then-x-eq240 c = rw (eq-eqb c.args.x 240 c.if-x-eq240.true) refl

pub returns-else-x-eq240 : goal.returns-else-x-eq240
returns-else-x-eq240 c = rw (ne_eqb c.args.x 240 c.if-x-eq240.false) refl
