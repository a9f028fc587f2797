-- The decay's cB: each return by what the test before it says of `decay_at`.
use borrow.Author.Tests.{eq-eqb, ne_eqb}
use Rattle.voice.specs.Stages.{decay_at}
use Rattle.voice.proofs.stages.decay_at.Goals as goal

pub returns-then-n-eq0 : goal.returns-then-n-eq0
unfolding decay_at
returns-then-n-eq0 c = simp (eq-eqb _ _ c.if-n-eq0.true)

pub returns : goal.returns
unfolding decay_at
returns c = simp (ne_eqb c.args.n 0 c.if-n-eq0.false) c.min.ensures
