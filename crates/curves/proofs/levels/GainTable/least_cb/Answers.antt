-- The search among the kept gains, 200 cB after 200 cB, finds the least attenuation.
use Prim.Native.Nat.{ℕ, ◌+◌, ◌*◌, ◌/◌, ◌%◌}
use native.Mathlib.Omega.{arith}
use mathlib.Core.Path.{◌≡◌, refl, ap, ◌∙◌}
use Rattle.curves.proofs.LevelsLaws.{reach, reach-turn, reach-small, passed, found, least-none}
use Rattle.curves.proofs.levels.GainTable.least_cb.Goals as goal

pub loop-tenths-init : goal.loop-tenths-init
unfolding reach
loop-tenths-init c = (refl, λ b h. omega arith)

pub returns-then-i-lt200 : goal.returns-then-i-lt200
returns-then-i-lt200 c = let a : ℕ = 200 * c.loop-tenths.tenths in
    let whole : a % 200 ≡ 0 = omega arith in
    found c.args.l a c.loop-tenths.most c.louder-i.result whole (omega arith) c.loop-tenths.invariant.0 c.louder-i.ensures c.loop-tenths.invariant.1 c.if-i-lt200.true

pub overflow_mul-most : goal.overflow_mul-most
overflow_mul-most c = record { fits = omega (arith, reach-small c.args.l (200 * c.loop-tenths.tenths) c.loop-tenths.most c.ranges.l.fits (omega arith) c.loop-tenths.invariant.0) }

pub overflow_add-most : goal.overflow_add-most
overflow_add-most c = record { fits = omega (arith, reach-small c.args.l (200 * c.loop-tenths.tenths) c.loop-tenths.most c.ranges.l.fits (omega arith) c.loop-tenths.invariant.0) }

pub loop-tenths-preserved : goal.loop-tenths-preserved
loop-tenths-preserved c = let a : ℕ = 200 * c.loop-tenths.tenths in
    let l = c.args.l in
    let whole : a % 200 ≡ 0 = omega arith in
    let more : a + 200 ≡ 200 * (c.loop-tenths.tenths + 1) = omega arith in
    let on = passed l a c.loop-tenths.most c.louder-i.result whole (omega arith) c.loop-tenths.invariant.0 c.louder-i.ensures c.loop-tenths.invariant.1 in
    (rw c.loop-tenths.invariant.0 (reach-turn l a ∙ ap (λ (x : ℕ). reach (x / 200) l) more), λ b h. on b (omega arith))

pub returns : goal.returns
returns c = least-none c.args.l (λ b h. c.loop-tenths.invariant.1 b (omega arith))
