-- `span_under` meets its contract.
use mathlib.Core.Path.{◌≡◌}
use Prim.Native.Nat.{◌<◌}
use Rattle.layers.specs.Spans.{span_under}
use Rattle.layers.proofs.spans.span_under.Given as goal

abbrev pub invariant-loop-n : goal.invariant-loop-n
invariant-loop-n l = (l.span ≡ span_under l.b l.i l.a l.k l.n) × (l.from < 65536) × (l.count < 65536)
