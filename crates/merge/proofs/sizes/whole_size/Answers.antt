-- `whole_size` meets its contract.
use mathlib.Core.Path.{ap, ◌∙◌}
use Rattle.merge.proofs.LinesLaws.{closing-length}
use Prim.Native.Nat.{ℕ, ◌+◌}
use Rattle.merge.specs.Internal.Lines.{held_count}
use native.Mathlib.Omega.{arith}
use Rattle.merge.proofs.sizes.whole_size.Goals as goal

pub returns : goal.returns
returns c = let t = c.args.t in
    let g = rw c.gap.ensures at (c.gap_size.ensures.0 t.line.tempo) in
    c.grown.ensures ∙ ap (λ (n : ℕ). held_count (t.size + n)) (omega (arith, g, closing-length t.line))
