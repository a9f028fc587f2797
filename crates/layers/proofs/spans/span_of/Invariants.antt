-- `span_of` meets its contract.
use mathlib.Core.Path.{◌≡◌}
use Prim.Native.Nat.{◌<◌}
use Rattle.layers.specs.Spans.{span_below}
use Rattle.layers.proofs.spans.span_of.Given as goal

abbrev pub invariant-loop-n : goal.invariant-loop-n
invariant-loop-n l = (l.span ≡ span_below l.b l.p l.i l.h l.n) × (l.from < 65536) × (l.count < 65536)
