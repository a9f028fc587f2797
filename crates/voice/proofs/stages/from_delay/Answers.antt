-- Delay or what follows: each return by what the test says of `from_delay`.
use borrow.Author.Tests.{eq-eqb, ne_eqb}
use Rattle.voice.specs.Stages.{from_delay}
use Rattle.voice.proofs.stages.from_delay.Goals as goal

pub returns-then-left-eq0 : goal.returns-then-left-eq0
unfolding from_delay
returns-then-left-eq0 c = simp (eq-eqb _ _ c.if-left-eq0.true) c.from_attack.ensures

pub returns-else-left-eq0 : goal.returns-else-left-eq0
unfolding from_delay
returns-else-left-eq0 c = simp (ne_eqb _ _ c.if-left-eq0.false)
