-- `sum_behind` meets its contract.
use native.Mathlib.Omega.{arith}
use Rattle.merge.proofs.LatenessLaws.{passes, stays}
use native.Mathlib.Nat.{mul-zero}
use Rattle.merge.proofs.lateness.sum_behind.Goals as goal

pub returns-then-tempo-eq0 : goal.returns-then-tempo-eq0
returns-then-tempo-eq0 c = let a = c.args in rw (c.if-tempo-eq0.true, mul-zero) (omega arith)

pub returns-then-left-tempo : goal.returns-then-left-tempo
returns-then-left-tempo c = let a = c.args in
    passes a.limit a.sum a.ticks a.tempo (omega arith) (omega arith) c.if-left-tempo.true

pub overflow_mul-result : goal.overflow_mul-result
overflow_mul-result c = let a = c.args in
    omega (arith, stays a.limit a.sum a.ticks a.tempo (omega arith) (omega arith) c.if-left-tempo.false)

pub overflow_add-result-2 : goal.overflow_add-result-2
overflow_add-result-2 c = let a = c.args in
    omega (arith, stays a.limit a.sum a.ticks a.tempo (omega arith) (omega arith) c.if-left-tempo.false)

pub returns : goal.returns
returns c = let a = c.args in
    omega (arith, stays a.limit a.sum a.ticks a.tempo (omega arith) (omega arith) c.if-left-tempo.false)
