-- The held ones of the first k frames are counted.
use mathlib.Core.Path.{◌≡◌, ap₂, sym, ◌∙◌}
use native.Mathlib.Omega.{arith}
use Prim.Native.Nat.{◌+◌, ◌*◌}
use mathlib.Core.Bool.{cond}
use lib.IntN.{ℤ, pos}
use lib.ListN.{get_or}
use mir.Facts.{to_z-of_z}
use mir.Syntax.{w32}
use mir.Val.{to_z, of_z}
use Rattle.wave.proofs.LoweringLaws.{at_most_one, either_past, past-none, past-turn}
use Rattle.wave.proofs.lowering.frames_past.Goals as goal

pub loop-k-init : goal.loop-k-init
loop-k-init c = (past-none c.args.g c.args.sums.now, omega arith, omega (arith, c.requires.0))

pub loop-k-preserved : goal.loop-k-preserved
loop-k-preserved c = let a = c.args in
    let xs = a.sums.now in
    let k = c.loop-k.k in
    let x = get_or xs (2 * k) (pos 0) in
    let y = get_or xs (2 * k + 1) (pos 0) in
    let one : to_z w32 (of_z w32 x) ≡ x = to_z-of_z {w = w32} {z = x} (record { sfits = c.l-1.given }) in
    let two : to_z w32 (of_z w32 y) ≡ y = to_z-of_z {w = w32} {z = y} (record { sfits = c.r-1.given }) in
    let e : c.one_if_past-count.result ≡ cond (either_past a.g x y) 1 0 = c.one_if_past-count.ensures ∙ ap₂ (λ (p q : ℤ). cond (either_past a.g p q) 1 0) one two in (
      ap₂ ◌+◌ c.loop-k.invariant.0 e ∙ sym (past-turn a.g xs k (omega (arith, c.loop-k.invariant.2))),
      omega (arith, e, at_most_one (either_past a.g x y), c.loop-k.invariant.1),
      c.loop-k.invariant.2,
    )
