-- `span_of` meets its contract.
use borrow.Author.Rules.{rules}
use mathlib.Core.Path.{refl, ap, ◌∙◌}
use native.Mathlib.Omega.{arith}
use Rattle.layers.specs.Spans.{span_below, span_of}
use Rattle.layers.proofs.SpansLaws.{below-turn}
use Rattle.layers.proofs.spans.span_of.Goals as goal

pub loop-n-init : goal.loop-n-init
unfolding span_below
loop-n-init c = (refl, search rules, search rules)

pub loop-n-preserved : goal.loop-n-preserved
loop-n-preserved c = let from = c.from-from in
    let a = c.args in
    (below-turn a.b.now a.m.presets a.m.instruments a.h c.loop-n.n from.result _ _ _ _ _ (c.from-from.ensures ∙ c.bag_of.ensures) c.zone_at-zone.ensures c.global_of-above.ensures c.loop-n.invariant.0 c.zone_span.ensures c.joined-span.ensures, search rules, search rules)

pub returns : goal.returns
unfolding span_of
returns c = let a = c.args in
    c.loop-n.invariant.0 ∙ ap (span_below a.b.now a.m.presets a.m.instruments a.h) (omega (arith, c.loop-n-test.false, c.loop-n.auto.n-end, c.zone_count.ensures, c.from-count.ensures))
