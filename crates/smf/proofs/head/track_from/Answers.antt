-- `track_from` meets its contract.
use mathlib.Core.Path.{◌≡◌, refl, sym, ◌∙◌}
use Prim.Native.Nat.{◌-◌}
use native.Mathlib.Omega.{arith}
use lib.ListN.{length}
use Rattle.smf.specs.Quantities.{four_at}
use Rattle.smf.proofs.HeadLaws.{end_after, track-cut, track-long, track-found, track-further, track-turn}
use Rattle.smf.proofs.head.track_from.Goals as goal

pub loop-at-init : goal.loop-at-init
loop-at-init c = (refl, c.requires.1)

pub returns-then-b-end : goal.returns-then-b-end
returns-then-b-end c = let b = c.args.b.now in
    let past = rw c.chunk_end-end.ensures at c.if-b-end.true in
    c.refused.ensures ∙ sym (c.loop-at.invariant.0 ∙ track-turn b c.loop-at.at _ (omega arith) (λ n. track-long b c.loop-at.at n (omega arith) past))

pub overflow_cast-result : goal.overflow_cast-result
overflow_cast-result c = omega arith

pub returns-then-four_at-eq-MTRK : goal.returns-then-four_at-eq-MTRK
returns-then-four_at-eq-MTRK c = let b = c.args.b.now in
    let e = c.chunk_end-end.ensures in
    let whole = rw e at c.if-b-end.false in
    let named = sym c.four_at.ensures ∙ c.if-four_at-eq-MTRK.true in
    rw e (sym (c.loop-at.invariant.0 ∙ track-turn b c.loop-at.at _ (omega arith) (λ n. track-found b c.loop-at.at n (omega arith) whole named)))

pub loop-at-smaller : goal.loop-at-smaller
loop-at-smaller c = let b = c.args.b.now in
    let e = c.chunk_end-end.ensures in
    let whole = rw e at c.if-b-end.false in
    omega (arith, e, whole, end_after b c.loop-at.at)

pub loop-at-preserved : goal.loop-at-preserved
loop-at-preserved c = let b = c.args.b.now in
    let e = c.chunk_end-end.ensures in
    let whole = rw e at c.if-b-end.false in
    let other : (four_at b c.loop-at.at ≡ 1297379947 → ⊥) = λ n. c.if-four_at-eq-MTRK.false (c.four_at.ensures ∙ n) in
    (rw e (c.loop-at.invariant.0 ∙ track-further b c.loop-at.at (omega arith) whole other), c.if-b-end.false)

pub returns : goal.returns
returns c = let b = c.args.b.now in
    c.refused-2.ensures ∙ sym (c.loop-at.invariant.0 ∙ track-cut b c.loop-at.at (length b) (omega arith))
