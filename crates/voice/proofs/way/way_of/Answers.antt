-- The three ways, each by its law.
use mathlib.Core.Path.{◌≡◌, sym, ap, ◌∙◌, subst}
use mathlib.Core.Bool.{true, false}
use Prim.Native.Nat.{ℕ, ◌+◌, ◌*◌, ◌-◌, ◌<◌}
use native.Mathlib.Omega.{arith}
use native.Mathlib.Nat.{mod-lt}
use borrow.Author.Tests.{not-true, not-false}
use Rattle.voice.specs.Motion.{folds}
use Rattle.voice.proofs.FramesLaws.{folds-loop}
use Rattle.voice.proofs.WayLaws.{straight-on, straight-in, round-on}
use Rattle.voice.proofs.way.way_of.Goals as goal

pub returns-then-not-is_folding : goal.returns-then-not-is_folding
returns-then-not-is_folding c = let a = c.args in
    let e = c.straight.ensures.place in
    let z = ap (λ (x : ℕ). x * 16777216) c.span_of.ensures.0 in
    let off : folds a.v a.s ≡ false = sym c.is_folding.ensures ∙ not-true c.is_folding.result c.if-not-is_folding.true-raw in
    record {
      leads = (
        straight-on a.v a.s a.step c.straight.result off e.0 e.1 (e.2 ∙ z)
            (λ p h. subst (λ (x : ℕ). p + a.step < x) z (c.straight.ensures.limit p h)),
        omega (arith, e.0),
      );
      size = (omega (arith, e.4, c.span_of.ensures.1), omega (arith, e.1), omega (arith, e.3));
    }

pub returns-then-v-a : goal.returns-then-v-a
returns-then-v-a c = let a = c.args in
    let e = c.straight-then-v-a.ensures.place in
    let on : folds a.v a.s ≡ true = sym c.is_folding.ensures ∙ not-false c.is_folding.result c.if-not-is_folding.false-raw in
    record { leads = (straight-in a.v a.s a.step c.straight-then-v-a.result on e.0 e.1 e.2 c.straight-then-v-a.ensures.limit, omega (arith, e.0)); size = (omega (arith, e.4, c.struct_known-2-1.given), omega (arith, e.1), omega (arith, e.3)) }

pub round-requires : goal.round-requires
round-requires c = let a = c.args in
    let l = folds-loop a.v a.s (sym c.is_folding.ensures ∙ not-false c.is_folding.result c.if-not-is_folding.false-raw) in
    omega arith

pub returns : goal.returns
returns c = let a = c.args in
    let e = c.round.ensures in
    let on : folds a.v a.s ≡ true = sym c.is_folding.ensures ∙ not-false c.is_folding.result c.if-not-is_folding.false-raw in
    let l = folds-loop a.v a.s on in
    let from = a.v.loopfrom * 16777216 in
    let to = a.v.loopto * 16777216 in
    let some : 0 < to - from = omega arith in
    let known = c.struct_known-2-1.given in
    record { leads = (round-on a.v a.s a.step c.round.result on l e.0 e.1 e.2 e.3 e.4, omega (arith, e.0, c.if-v-a.false)); size = (omega (arith, e.1, known), omega (arith, e.2, mod-lt a.step some, known), omega (arith, e.3, e.4)) }
