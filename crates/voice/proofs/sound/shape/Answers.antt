-- The level put in, by the stage: in attack by the contract of `at_level`, else as it is.
use Prim.Native.Nat.{ℕ}
use lib.Dec.{lit<}
use lib.IntN.{ℤ, pos, ◌*ℤ◌}
use mir.Syntax.{w64}
use mathlib.Core.Path.{sym, ap, ap₂, ◌∙◌}
use Rattle.voice.specs.Sound.{shaped}
use Rattle.voice.specs.declared.Stage.{Stage}
use Rattle.arith.specs.Floors.{floor_z}
use Rattle.arith.proofs.WithinLaws.{w-back}
use Rattle.voice.proofs.sound.shape.Goals as goal

pub returns-in-Attack : goal.returns-in-Attack
returns-in-Attack c = let a = c.args in
    let e = w-back w64 c.at_level.ensures.1 (lit< tt) in
    let p = w-back w64 c.requires (lit< tt) in
    let l = c.level_at.ensures.0 in (
      rw e (c.at_level.ensures.0 ∙ ap₂ (λ (u : ℤ) (g : ℕ). floor_z (u *ℤ pos g) 16777216) p l ∙ sym (ap (λ (s : Stage). shaped a.v s a.u) c.in-Attack.is)),
      rw e c.at_level.ensures.1,
    )
