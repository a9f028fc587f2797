-- The lowered sum, held; it fits 32 bits because both ends do.
use borrow.Author.Rules.{sfits_of}
use mathlib.Core.Path.{◌≡◌, refl, ap, ◌∙◌}
use lib.Dec.{lit<}
use lib.IntN.{pos, negsuc}
use mir.Facts.{to_z-of_z}
use mir.Syntax.{w32, w64}
use Rattle.arith.specs.Holds.{held_to}
use Rattle.arith.proofs.HoldsLaws.{held-within}
use Rattle.arith.proofs.WithinLaws.{w-back, w_fits}
use Rattle.wave.specs.Lowering.{lowered_by}
use Rattle.wave.proofs.lowering.clip.Goals as goal

pub overflow_cast-result : goal.overflow_cast-result
overflow_cast-result c = let gives : c.hold.result ≡ held_to (negsuc 8388607) (pos 8388608) (lowered_by c.args.g c.args.z) = c.hold.ensures
    ∙ ap (held_to (negsuc 8388607) (pos 8388608))
    (w-back w64 c.lower.ensures.1 (lit< tt) ∙ c.lower.ensures.0 ∙ ap (lowered_by c.args.g) (to_z-of_z c.ranges.z)) in
    let a = c.args in
    rw (to_z-of_z {w = w64} {z = c.hold.result} (sfits_of c.hold.type_inv), gives) (w_fits w32 (held-within (lowered_by a.g a.z) 8388607) (lit< tt))

pub returns : goal.returns
returns c = let gives : c.hold.result ≡ held_to (negsuc 8388607) (pos 8388608) (lowered_by c.args.g c.args.z) = c.hold.ensures
    ∙ ap (held_to (negsuc 8388607) (pos 8388608))
    (w-back w64 c.lower.ensures.1 (lit< tt) ∙ c.lower.ensures.0 ∙ ap (lowered_by c.args.g) (to_z-of_z c.ranges.z)) in
    let a = c.args in
    let h = held-within (lowered_by a.g a.z) 8388607 in
    rw (to_z-of_z {w = w64} {z = c.hold.result} (sfits_of c.hold.type_inv), gives, w-back w32 h (lit< tt)) (refl, h)
