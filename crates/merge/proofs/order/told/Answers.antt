-- `told` meets its contract.
use mathlib.Core.Path.{refl}
use Rattle.merge.specs.Internal.Order.{told_of}
use Rattle.merge.proofs.order.told.Goals as goal

pub returns : goal.returns
unfolding told_of
returns c = let s = rw c.entry_size.ensures.0 at c.grown.ensures in
    rw (c.hour_after.ensures, c.line_after.ensures, s) refl
