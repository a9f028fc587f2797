-- Whether a voice folds: each return by what the tests before it say of `folds`.
use mathlib.Core.Bool.{not}
use borrow.Author.Tests.{eq-eqb, ne_eqb, le-ltb, lt-ltb}
use mathlib.Core.Path.{ap}
use Rattle.voice.specs.Motion.{folds}
use Rattle.voice.proofs.motion.is_folding.Goals as goal

pub returns-then-v : goal.returns-then-v
unfolding folds
returns-then-v c = simp (le-ltb _ _ c.if-v.true)

pub returns-then-v-eq1 : goal.returns-then-v-eq1
unfolding folds
returns-then-v-eq1 c = simp (lt-ltb _ _ c.if-v.false, eq-eqb _ _ c.if-v-eq1.true)

pub returns-then-v-eq3 : goal.returns-then-v-eq3
unfolding folds
returns-then-v-eq3 c = simp
    (lt-ltb _ _ c.if-v.false, ne_eqb _ _ c.if-v-eq1.false, eq-eqb _ _ c.if-v-eq3.true)
    (ap not c.is_released.ensures)

pub returns : goal.returns
unfolding folds
returns c = simp (lt-ltb _ _ c.if-v.false, ne_eqb _ _ c.if-v-eq1.false, ne_eqb _ _ c.if-v-eq3.false)
