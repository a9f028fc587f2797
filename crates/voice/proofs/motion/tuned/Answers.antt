-- The sum of two 32-bit numbers fits 64 bits.
use mathlib.Core.Path.{ap, ◌∙◌}
use mathlib.Core.List.{List, [], ◌∷◌}
use lib.Dec.{lit<}
use lib.IntN.{ℤ, ◌+ℤ◌}
use mir.Facts.{to_z-of_z}
use mir.Syntax.{w32, w64}
use mir.Val.{SFits}
use borrow.Author.Rules.{sfits_of}
use Rattle.arith.proofs.WithinLaws.{w-of, w_fits}
use Rattle.arith.proofs.Expressions.{E, Var, var, add, given, fits, back}
use Rattle.curves.specs.Pitch.{pitch_held}
use Rattle.voice.proofs.motion.tuned.Goals as goal

abbrev sum : E
sum = add (var 0) (var 1)

pub overflow_cast-pitch : goal.overflow_cast-pitch
overflow_cast-pitch c = rw (to_z-of_z c.ranges.pitch) (w_fits w64 (w-of w32 c.ranges.pitch) (lit< tt))

pub overflow_cast-b : goal.overflow_cast-b
overflow_cast-b c = let cents : SFits w32 c.bend_cents-b.result = sfits_of c.bend_cents-b.type_inv in
    rw (to_z-of_z (cents)) (w_fits w64 (w-of w32 (cents)) (lit< tt))

pub overflow_add-pitch : goal.overflow_add-pitch
overflow_add-pitch c = let cents : SFits w32 c.bend_cents-b.result = sfits_of c.bend_cents-b.type_inv in
    let env : List Var = given (w-of w32 c.ranges.pitch) ∷ given (w-of w32 (cents)) ∷ [] in
    rw (to_z-of_z c.ranges.pitch, to_z-of_z (cents)) (fits w64 (env) sum tt)

pub returns : goal.returns
returns c = let cents : SFits w32 c.bend_cents-b.result = sfits_of c.bend_cents-b.type_inv in
    let env : List Var = given (w-of w32 c.ranges.pitch) ∷ given (w-of w32 (cents)) ∷ [] in
    let a = c.args in
    rw (to_z-of_z {w = w32} {z = c.hold_pitch.result} (sfits_of c.hold_pitch.type_inv))
    (rw (to_z-of_z c.ranges.pitch, to_z-of_z (cents), back w64 (env) sum tt) at c.hold_pitch.ensures
    ∙ ap (λ (z : ℤ). pitch_held (a.pitch +ℤ z)) c.bend_cents-b.ensures)
