-- The search along the table counts the kept gains that are above the number.
use lib.ListN.{get_or}
use mathlib.Core.List.{List}
use Prim.Native.Nat.{ℕ, ◌-◌}
use native.Mathlib.Omega.{arith}
use mathlib.Core.Path.{◌≡◌, ap, ◌∙◌}
use Rattle.curves.proofs.LevelsLaws.{count-is, one_more}
use Rattle.curves.specs.Levels.{gains}
use Rattle.curves.specs.Internal.Levels.{kept, louder}
use Rattle.curves.proofs.levels.GainTable.louder.Goals as goal

at : (g : List ℕ) (i : ℕ) → g ≡ gains → get_or g i 0 ≡ kept i
at g i e = ap (λ (x : List ℕ). get_or x i 0) e

pub returns-then-from-m : goal.returns-then-from-m
unfolding louder
returns-then-from-m c = let a = c.args in
    let e = c.from.ensures ∙ at a.self.now.entries c.loop-i.i c.args.self.now.kept in
    count-is kept a.m 200 c.loop-i.i c.loop-i.auto.i-end c.loop-i.invariant (λ h. rw e at c.if-from-m.true)

pub returns : goal.returns
unfolding louder
returns c = let e : c.loop-i.i ≡ 200 = omega arith in
    count-is kept c.args.m 200 200 (omega arith) (λ b h. c.loop-i.invariant b (omega arith)) (λ h. omega arith)
