-- Attack or what follows: each return by what the test says of `from_attack`.
use borrow.Author.Tests.{le-leb, lt-leb}
use Rattle.voice.specs.Stages.{from_attack}
use Rattle.voice.proofs.stages.from_attack.Goals as goal

pub returns-then-v-t : goal.returns-then-v-t
unfolding from_attack
returns-then-v-t c = simp (le-leb _ _ c.if-v-t.true) c.from_hold.ensures

pub returns-else-v-t : goal.returns-else-v-t
unfolding from_attack
returns-else-v-t c = simp (lt-leb _ _ c.if-v-t.false)
