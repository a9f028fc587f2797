-- The release's cB: each return by what the test says of `release_at`, and it fits because a quotient is at most what is divided.
use Prim.Native.Nat.{◌*◌}
use native.Mathlib.Nat.{div-le_self}
use native.Mathlib.Omega.{arith}
use borrow.Author.Tests.{eq-eqb, ne_eqb}
use Rattle.voice.specs.Stages.{release_at}
use Rattle.voice.proofs.stages.release_at.Goals as goal

pub returns-then-n-eq0 : goal.returns-then-n-eq0
unfolding release_at
returns-then-n-eq0 c = (simp (eq-eqb _ _ c.if-n-eq0.true), omega arith)

pub overflow_add-result : goal.overflow_add-result
overflow_add-result c = let a = c.args in omega (arith, div-le_self (1000 * a.t) a.n)

pub returns : goal.returns
unfolding release_at
returns c = let a = c.args in
    (simp (ne_eqb a.n 0 c.if-n-eq0.false), omega (arith, div-le_self (1000 * a.t) a.n))
