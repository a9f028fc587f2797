-- `put_gap` meets its contract.
use Rattle.merge.specs.Bridges.{bridges_of, rest_of}
use native.Mathlib.Omega.{arith}
use lib.ListN.{length-append}
use Rattle.smf.specs.Spelling.{quantity_bytes}
use Rattle.merge.specs.Internal.Lines.{bridge_bytes, gap_bytes}
use Rattle.merge.proofs.PagesLaws.{room-then, laid_then}
use Rattle.merge.proofs.pages.put_gap.Goals as goal

pub put_bridges-p-requires : goal.put_bridges-p-requires
unfolding gap_bytes
put_bridges-p-requires c = let a = c.args in
    let p = c.requires in
    rw c.bridges.ensures.0 (omega (arith, p, length-append (bridge_bytes a.tempo (bridges_of a.ticks)) (quantity_bytes (rest_of a.ticks))))

pub put_quantity-requires : goal.put_quantity-requires
unfolding gap_bytes
put_quantity-requires c = let a = c.args in
    let w-value = rw c.bridges.ensures.0 at c.put_bridges-p.ensures.value in
    let w-output = rw c.bridges.ensures.0 at c.put_bridges-p.ensures.output in
    (rw c.rest.ensures.0 (room-then a.out.now a.at (bridge_bytes a.tempo (bridges_of a.ticks)) (quantity_bytes (rest_of a.ticks)) c.requires _ _ w-value w-output), c.rest.ensures.1)

pub returns : goal.returns
unfolding gap_bytes
returns c = let a = c.args in
    let w-value = rw c.bridges.ensures.0 at c.put_bridges-p.ensures.value in
    let w-output = rw c.bridges.ensures.0 at c.put_bridges-p.ensures.output in
    let q-value = rw c.rest.ensures.0 at c.put_quantity.ensures.value in
    let q-output = rw c.rest.ensures.0 at c.put_quantity.ensures.output in
    let answer = laid_then a.out.now a.at (bridge_bytes a.tempo (bridges_of a.ticks)) (quantity_bytes (rest_of a.ticks)) c.requires _ _ w-value w-output _ _ q-value q-output in
    record { value = answer.0; output = answer.1 }
