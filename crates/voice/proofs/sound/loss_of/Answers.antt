-- The attenuations of the two controls, put in.
use mathlib.Core.Path.{ap₂, ◌∙◌}
use Prim.Native.Nat.{ℕ}
use lib.Dec.{lit<}
use lib.IntN.{pos, ◌+ℤ◌}
use mir.Facts.{to_z-of_z}
use mir.Syntax.{w32, w64}
use borrow.Author.Rules.{sfits_of}
use Rattle.arith.proofs.WithinLaws.{w-back}
use Rattle.voice.proofs.sound.loss_of.Goals as goal

pub returns : goal.returns
returns c = let a = c.args.v.attenuation in
    let att = to_z-of_z {w = w32} {z = a} (sfits_of c.well_formed.0.1.1.1.1.1.1.1.1.1.1.1.1.1.1.1.1.1.1.0.1) in
    let e = rw att at c.added.ensures.0 in
    rw (w-back w64 c.added.ensures.1 (lit< tt))
    (e ∙ ap₂ (λ (m n : ℕ). a +ℤ pos m +ℤ pos n) c.cb_of-x.ensures.0 c.cb_of-y.ensures.0, c.added.ensures.1)
