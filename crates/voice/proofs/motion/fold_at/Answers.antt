-- Inside the loop, one length past it, or further.
use Prim.Native.Nat.{◌<◌, ◌-◌}
use mathlib.Core.Path.{sym}
use native.Mathlib.Nat.{mod-lt}
use native.Mathlib.Omega.{arith}
use Rattle.voice.proofs.MotionLaws.{fold-in, fold-once, fold-past, fold-lt}
use Rattle.voice.proofs.motion.fold_at.Goals as goal

pub returns-then-p-b : goal.returns-then-p-b
returns-then-p-b c = let a = c.args in (sym (fold-in a.a a.b a.p c.if-p-b.true), c.if-p-b.true)

pub returns-then-near-b : goal.returns-then-near-b
returns-then-near-b c = let a = c.args in
    (sym (fold-once a.a a.b a.p c.requires c.if-p-b.false c.if-near-b.true), c.if-near-b.true)

pub overflow_add-result : goal.overflow_add-result
overflow_add-result c = let a = c.args in
    let z : 0 < a.b - a.a = omega arith in
    omega (arith, mod-lt (a.p - a.a) z)

pub returns : goal.returns
returns c = let a = c.args in
    let e = fold-past a.a a.b a.p c.if-p-b.false in
    (sym e, rw e at (fold-lt a.a a.b a.p c.requires))
