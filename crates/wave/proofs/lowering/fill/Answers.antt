-- The bytes of the first i sums stand in front, two for each.
use mathlib.Core.Path.{◌≡◌, refl, ap, ◌∙◌}
use mathlib.Core.List.{List}
use native.Mathlib.Omega.{arith}
use Prim.Native.Nat.{ℕ, ◌+◌, ◌*◌, ◌/◌, ◌%◌}
use lib.IntN.{ℤ, pos}
use lib.ListN.{get_or, set, length-set}
use mir.Facts.{to_z-of_z}
use mir.Syntax.{w32}
use mir.Val.{to_z, of_z}
use Rattle.wave.specs.Lowering.{sum_word}
use Rattle.wave.proofs.LoweringLaws.{sums_none, sums-turn}
use Rattle.wave.proofs.lowering.fill.Goals as goal

pub loop-i-init : goal.loop-i-init
loop-i-init c = let a = c.args in (refl, sums_none a.g a.sums.now a.out.now)

pub loop-i-preserved : goal.loop-i-preserved
loop-i-preserved c = let xs = c.args.sums.now in
    let d = c.args.out.now in
    let i = c.loop-i.i in
    let w = c.word-w.result in
    let x = get_or xs i (pos 0) in
    let one : to_z w32 (of_z w32 x) ≡ x = to_z-of_z {w = w32} {z = x} (record { sfits = c.word-arg-1.given }) in (
      length-set (set c.loop-i.out (2 * i) (w % 256)) (2 * i + 1) (w / 256) ∙ length-set c.loop-i.out (2 * i) (w % 256) ∙ c.loop-i.invariant.0,
      ap (λ (o : List ℕ). set (set o (2 * i) (w % 256)) (2 * i + 1) (w / 256)) c.loop-i.invariant.1
          ∙ sums-turn c.args.g xs d i w (omega arith) c.requires.room (c.word-w.ensures ∙ ap (λ (z : ℤ). sum_word c.args.g z) one),
    )
