-- A total held here is held again by the table's step, which changes nothing.
use mathlib.Core.Path.{ap, ◌∙◌}
use lib.IntN.{ℤ, ◌+ℤ◌}
use mir.Facts.{to_z-of_z}
use mir.Syntax.{w32}
use borrow.Author.Rules.{sfits_of}
use Rattle.curves.specs.Pitch.{bend_cents}
use Rattle.curves.specs.Internal.Pitch.{step_at}
use Rattle.voice.proofs.MotionLaws.{step-held}
use Rattle.voice.proofs.motion.step_of.Goals as goal

pub returns : goal.returns
returns c = let a = c.args in
    let x = a.v.pitch +ℤ bend_cents a.bend in
    let pitch = to_z-of_z {w = w32} {z = a.v.pitch} (sfits_of c.well_formed.0.1.1.1.1.1.1.1.1.1.1.1.1.1.1.1.1.0.1) in
    rw (to_z-of_z {w = w32} (sfits_of c.tuned-cents.type_inv)) at c.step.ensures
    ∙ ap (λ (z : ℤ). step_at z a.v.rate) (rw pitch at c.tuned-cents.ensures)
    ∙ step-held x a.v.rate
