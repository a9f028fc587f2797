-- `acted_at` meets its contract.
use mathlib.Core.Path.{ap, refl}
use Rattle.smf.specs.declared.Met.TheVariants.{Passed}
use Rattle.smf.specs.Track.{acted}
use Rattle.smf.proofs.track.acted_at.Goals as goal

pub returns-in-Bad : goal.returns-in-Bad
unfolding acted
returns-in-Bad c = simp c.in-Bad.is

pub returns-in-End : goal.returns-in-End
unfolding acted
returns-in-End c = simp c.in-End.is

pub returns-in-Passed : goal.returns-in-Passed
unfolding acted
returns-in-Passed c = rw c.in-Passed.is (ap Passed c.carried_to.ensures)

pub returns-in-Tempo : goal.returns-in-Tempo
unfolding acted
returns-in-Tempo c = rw c.in-Tempo.is (ap Passed c.carried_to-in-Tempo.ensures)

pub returns-in-Channel : goal.returns-in-Channel
unfolding acted
returns-in-Channel c = rw (c.in-Channel.is, c.carried_to-in-Channel.ensures) refl
