-- Both sides of the test.
use mathlib.Core.Path.{ap, sym}
use mathlib.Core.Bool.{Bool, cond}
use native.Mathlib.Omega.{arith}
use borrow.Author.Tests.{eq-eqb, ne_eqb}
use Rattle.voice.specs.Internal.Pace.{stop_if}
use Rattle.voice.proofs.pace.stop_if.Goals as goal

pub returns-then-n-eq0 : goal.returns-then-n-eq0
unfolding stop_if
returns-then-n-eq0 c = let a = c.args in (sym (ap (λ (b : Bool). cond b 0 a.stop) (eq-eqb a.n 0 c.if-n-eq0.true)), omega arith)

pub returns-else-n-eq0 : goal.returns-else-n-eq0
unfolding stop_if
returns-else-n-eq0 c = let a = c.args in (sym (ap (λ (b : Bool). cond b 0 a.stop) (ne_eqb a.n 0 c.if-n-eq0.false)), omega arith)
