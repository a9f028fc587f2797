-- A turn writes frame k: two stores behind what is written.
use Rattle.std.proofs.Common.{◌≡◌, ℕ, ◌+◌, ◌-◌, ◌*◌, List, ◌++◌, get_or, drop, set, pos, sym, refl, ap, ◌∙◌, ap₂, arith, length-set, to_z-of_z, w32, to_z, of_z}
use lib.Ieee.{Float}
use Rattle.arith.proofs.Put.{put2}
use Rattle.engine.specs.Mixer.{mixed}
use Rattle.engine.specs.Internal.Sums.{mixed_to}
use Rattle.engine.proofs.RenderingLaws.{mixed-none, mixed-turn, mixed-length}
use Rattle.engine.proofs.adding.mix_all.Goals as goal

pub loop-k-init : goal.loop-k-init
loop-k-init c = let a = c.args in
    (sym (ap (λ (p : List Float). p ++ a.out.now) (mixed-none a.acc.now)), refl, omega arith, omega arith)

pub loop-k-preserved : goal.loop-k-preserved
loop-k-preserved c = let a = c.args in
    let k = c.loop-k.k in
    let xs = a.acc.now in
    let x = get_or xs (2 * k) (pos 0) in
    let y = get_or xs (2 * k + 1) (pos 0) in
    let one : to_z w32 (of_z w32 x) ≡ x = to_z-of_z {w = w32} {z = x} (record { sfits = c.l-1.given }) in
    let two : to_z w32 (of_z w32 y) ≡ y = to_z-of_z {w = w32} {z = y} (record { sfits = c.r-1.given }) in
    let left : c.mix-f.result.left ≡ mixed x = c.mix-f.ensures.left ∙ ap mixed one in
    let right : c.mix-f.result.right ≡ mixed y = c.mix-f.ensures.right ∙ ap mixed two in
    let next : 2 * k + 2 ≡ 2 * (k + 1) = omega arith in (
      ap (λ (o : List Float). set (set o (2 * k) c.mix-f.result.left) (2 * k + 1) c.mix-f.result.right) c.loop-k.invariant.0
          ∙ ap₂ (λ (p q : Float). set (set (mixed_to k xs ++ drop (2 * k) a.out.now) (2 * k) p) (2 * k + 1) q) left right
          ∙ put2 (mixed_to k xs) a.out.now (2 * k) (mixed x) (mixed y) (mixed x) (mixed-length k xs) (omega (arith, c.loop-k.invariant.3))
          ∙ ap₂ (λ (p : List Float) (j : ℕ). p ++ drop j a.out.now) (sym (mixed-turn k xs)) next,
      simp length-set c.loop-k.invariant.1,
      omega arith,
      omega arith,
    )
