-- `keys_under` meets its contract.
use Rattle.layers.specs.Spans.{keys_under}
use Rattle.layers.proofs.spans.keys_under.Goals as goal

pub returns-then-zone : goal.returns-then-zone
unfolding keys_under
returns-then-zone c = simp c.if-zone.true (cc)

pub returns : goal.returns
unfolding keys_under
returns c = simp c.if-zone.false
