-- Both sides of the test.
use mathlib.Core.Path.{ap, sym}
use mathlib.Core.Bool.{Bool, cond}
use native.Mathlib.Omega.{arith}
use borrow.Author.Tests.{eq-eqb, ne_eqb}
use lib.Dec.{lit<}
use Rattle.voice.specs.Internal.Pace.{some}
use Rattle.voice.proofs.pace.at_least_one.Goals as goal

pub returns-then-n-eq0 : goal.returns-then-n-eq0
unfolding some
returns-then-n-eq0 c = let n = c.args.n in (sym (ap (λ (b : Bool). cond b 1 n) (eq-eqb n 0 c.if-n-eq0.true)), lit< tt, lit< tt)

pub returns-else-n-eq0 : goal.returns-else-n-eq0
unfolding some
returns-else-n-eq0 c = let n = c.args.n in
    (sym (ap (λ (b : Bool). cond b 1 n) (ne_eqb n 0 c.if-n-eq0.false)), omega (arith, c.if-n-eq0.false), omega arith)
