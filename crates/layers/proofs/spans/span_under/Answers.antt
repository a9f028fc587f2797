-- `span_under` meets its contract.
use borrow.Author.Rules.{rules}
use mathlib.Core.Path.{refl, ap, ◌∙◌}
use native.Mathlib.Omega.{arith}
use Rattle.layers.specs.Spans.{span_under}
use Rattle.layers.proofs.SpansLaws.{under-turn}
use Rattle.layers.proofs.spans.span_under.Goals as goal

pub loop-n-init : goal.loop-n-init
unfolding span_under
loop-n-init c = (refl, search rules, search rules)

pub loop-n-preserved : goal.loop-n-preserved
loop-n-preserved c = let from = c.from-from in
    let a = c.args in
    (under-turn a.b.now a.i a.a a.k c.loop-n.n from.result _ _ _ _ _ (c.from-from.ensures ∙ c.bag_of.ensures) c.zone_at-zone.ensures c.global_of-beside.ensures c.loop-n.invariant.0 c.keys_under.ensures c.joined-span.ensures, search rules, search rules)
