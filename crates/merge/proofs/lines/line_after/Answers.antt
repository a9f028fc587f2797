-- `line_after` meets its contract.
use mathlib.Core.Path.{refl}
use Rattle.merge.proofs.lines.line_after.Goals as goal

pub returns-in-End : goal.returns-in-End
returns-in-End c = rw c.in-End.is refl

pub returns-in-Tempo : goal.returns-in-Tempo
returns-in-Tempo c = rw c.in-Tempo.is refl

pub returns-in-Channel : goal.returns-in-Channel
returns-in-Channel c = rw c.in-Channel.is refl
