-- `count_number` meets its contract.
use mathlib.Core.Path.{refl}
use borrow.Author.Tests.{lt-ltb, le-ltb, eq-eqb, ne_eqb}
use Rattle.merge.specs.Fronts.{count_number}
use Rattle.merge.proofs.fronts.count_number.Goals as goal

pub returns-then-count-eq1 : goal.returns-then-count-eq1
unfolding count_number
returns-then-count-eq1 c = rw (eq-eqb _ _ c.if-format-eq0.true, eq-eqb _ _ c.if-count-eq1.true) refl

pub returns-then-format-eq0 : goal.returns-then-format-eq0
unfolding count_number
returns-then-format-eq0 c = rw (eq-eqb _ _ c.if-format-eq0.true, ne_eqb _ _ c.if-count-eq1.false) refl

pub returns-then-count-eq0 : goal.returns-then-count-eq0
unfolding count_number
returns-then-count-eq0 c = rw (ne_eqb _ _ c.if-format-eq0.false, eq-eqb _ _ c.if-count-eq0.true) refl

pub returns-then-count-gt256 : goal.returns-then-count-gt256
unfolding count_number
returns-then-count-gt256 c = rw (ne_eqb _ _ c.if-format-eq0.false, ne_eqb _ _ c.if-count-eq0.false, lt-ltb _ _ c.if-count-gt256.true) refl

pub returns : goal.returns
unfolding count_number
returns c = rw (ne_eqb _ _ c.if-format-eq0.false, ne_eqb _ _ c.if-count-eq0.false, le-ltb _ _ c.if-count-gt256.false) refl
