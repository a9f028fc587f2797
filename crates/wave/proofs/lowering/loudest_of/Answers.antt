-- The largest of the first i sizes.
use mathlib.Core.Path.{◌≡◌, ap, ap₂, sym, ◌∙◌}
use native.Mathlib.Omega.{arith}
use Prim.Native.Nat.{max}
use lib.IntN.{pos, nat_abs}
use lib.ListN.{get_or}
use mir.Facts.{to_z-of_z}
use mir.Syntax.{w32}
use mir.Val.{to_z, of_z}
use Rattle.wave.proofs.LoweringLaws.{loudest-none, loudest-turn}
use Rattle.wave.proofs.lowering.loudest_of.Goals as goal

pub loop-z-init : goal.loop-z-init
loop-z-init c = loudest-none c.args.sums.now

pub loop-z-preserved : goal.loop-z-preserved
loop-z-preserved c = let xs = c.args.sums.now in
    let i = c.loop-z.z-index in
    let x = get_or xs i (pos 0) in
    let one : to_z w32 (of_z w32 x) ≡ x = to_z-of_z {w = w32} {z = x} (record { sfits = c.louder-arg-1.given }) in
    c.louder-most.ensures ∙ ap₂ max c.loop-z.invariant (ap nat_abs one) ∙ sym (loudest-turn xs i (omega arith))
