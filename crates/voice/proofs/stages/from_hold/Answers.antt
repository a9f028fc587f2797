-- Hold or what follows: each return by what the test says of `from_hold`.
use borrow.Author.Tests.{le-leb, lt-leb}
use Rattle.voice.specs.Stages.{from_hold}
use Rattle.voice.proofs.stages.from_hold.Goals as goal

pub returns-then-v-t : goal.returns-then-v-t
unfolding from_hold
returns-then-v-t c = simp (le-leb _ _ c.if-v-t.true) c.from_decay.ensures

pub returns-else-v-t : goal.returns-else-v-t
unfolding from_hold
returns-else-v-t c = simp (lt-leb _ _ c.if-v-t.false)
