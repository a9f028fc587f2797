-- `zone_span` meets its contract.
use Rattle.layers.specs.Spans.{zone_span}
use Rattle.layers.proofs.spans.zone_span.Goals as goal

pub returns-then-zone : goal.returns-then-zone
unfolding zone_span
returns-then-zone c = simp c.if-zone.true (cc)

pub returns : goal.returns
unfolding zone_span
returns c = simp c.if-zone.false
