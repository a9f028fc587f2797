-- `hour_after` meets its contract.
use Rattle.merge.proofs.LatenessLaws.{hour-past, hour-within}
use Rattle.merge.proofs.lateness.hour_after.Goals as goal

pub returns-then-limit-sum : goal.returns-then-limit-sum
returns-then-limit-sum c = let a = c.args in
    hour-past a.h a.e a.limit _ _ (rw c.gap.ensures at c.sum_behind-sum.ensures) c.tempo_after-tempo.ensures _ c.if-limit-sum.true c.nearer_of.ensures

pub returns : goal.returns
returns c = let a = c.args in
    hour-within a.h a.e a.limit _ _ (rw c.gap.ensures at c.sum_behind-sum.ensures) c.tempo_after-tempo.ensures c.if-limit-sum.false
