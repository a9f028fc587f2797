-- `gap_size` meets its contract.
use native.Mathlib.Omega.{arith}
use Rattle.merge.proofs.LinesLaws.{gap_length}
use Rattle.merge.proofs.sizes.gap_size.Goals as goal

pub returns : goal.returns
returns c = let q = c.quantity_size.ensures.0 in
    let n = c.bridges.ensures in
    let r = c.rest.ensures.0 in
    ((λ tempo. let g = gap_length tempo c.args.ticks in omega (arith, g, n.0, rw r at q)), omega (arith, n.1, c.quantity_size.ensures.1))
