-- `stop` meets its contract.
use mathlib.Core.Path.{refl, sym, ◌∙◌}
use native.Mathlib.Omega.{arith}
use Rattle.riff.proofs.ChunksLaws.{next-in, stop-further, stop-done}
use Rattle.riff.proofs.chunks.stop.Goals as goal

pub loop-place-smaller : goal.loop-place-smaller
loop-place-smaller c = let a = c.args in
    let whole = sym c.is_whole.ensures ∙ c.loop-place-test.true in
    omega (arith, c.next_at-place.ensures, next-in a.b.now a.end c.loop-place.place whole)

pub loop-place-preserved : goal.loop-place-preserved
loop-place-preserved c = let a = c.args in
    let whole = sym c.is_whole.ensures ∙ c.loop-place-test.true in
    rw c.next_at-place.ensures (c.loop-place.invariant.0 ∙ stop-further a.b.now a.end c.loop-place.place whole, (next-in a.b.now a.end c.loop-place.place whole).1)

pub returns : goal.returns
returns c = let a = c.args in
    sym (c.loop-place.invariant.0 ∙ stop-done a.b.now a.end c.loop-place.place (sym c.is_whole.ensures ∙ c.loop-place-test.false))
