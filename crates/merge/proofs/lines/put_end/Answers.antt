-- `put_end` meets its contract.
use mathlib.Core.List.{[], ◌∷◌}
use Prim.Native.Nat.{◌-◌}
use native.Mathlib.Omega.{arith}
use Rattle.merge.specs.Internal.Lines.{gap_bytes, closing_bytes}
use Rattle.merge.proofs.LinesLaws.{closing-length}
use Rattle.merge.proofs.PagesLaws.{room-then, laid_then}
use Rattle.merge.proofs.lines.put_end.Goals as goal

pub put_gap-p-requires : goal.put_gap-p-requires
put_gap-p-requires c = rw c.gap.ensures (omega (arith, c.requires, closing-length c.args.l))

pub put-requires : goal.put-requires
unfolding closing_bytes
put-requires c = let a = c.args in
    let w-value = rw c.gap.ensures at c.put_gap-p.ensures.value in
    let w-output = rw c.gap.ensures at c.put_gap-p.ensures.output in
    room-then a.out.now a.at (gap_bytes a.l.tempo (a.l.end - a.l.tick)) (255 ∷ 47 ∷ 0 ∷ []) c.requires _ _ w-value w-output

pub returns : goal.returns
unfolding closing_bytes
returns c = let a = c.args in
    let w-value = rw c.gap.ensures at c.put_gap-p.ensures.value in
    let w-output = rw c.gap.ensures at c.put_gap-p.ensures.output in
    let answer = laid_then a.out.now a.at (gap_bytes a.l.tempo (a.l.end - a.l.tick)) (255 ∷ 47 ∷ 0 ∷ []) c.requires _ _ w-value w-output _ _ c.put.ensures.value c.put.ensures.output in
    record { value = answer.0; output = answer.1 }
