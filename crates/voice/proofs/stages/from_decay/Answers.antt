-- Decay or what follows: each return by what the test says of `from_decay`.
use mathlib.Core.Path.{sym}
use borrow.Author.Tests.{le-leb, lt-leb}
use Rattle.voice.specs.Stages.{from_decay}
use Rattle.voice.proofs.stages.from_decay.Goals as goal

pub returns-then-v-decay_at : goal.returns-then-v-decay_at
unfolding from_decay
returns-then-v-decay_at c = simp (sym c.decay_at.ensures, le-leb _ _ c.if-v-decay_at.true)

pub returns-else-v-decay_at : goal.returns-else-v-decay_at
unfolding from_decay
returns-else-v-decay_at c = simp (sym c.decay_at.ensures, lt-leb _ _ c.if-v-decay_at.false)
