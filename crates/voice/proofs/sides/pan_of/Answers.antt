-- The pan, held to -500..500.
use lib.Dec.{lit<}
use mir.Facts.{to_z-of_z}
use mir.Syntax.{w16, w64}
use borrow.Author.Rules.{sfits_of}
use Rattle.arith.proofs.WithinLaws.{w-back, w-of, w_fits}
use Rattle.arith.proofs.HoldsLaws.{held-within}
use Rattle.voice.proofs.sides.pan_of.Goals as goal

pub overflow_cast-p : goal.overflow_cast-p
overflow_cast-p c = rw (to_z-of_z c.ranges.p) (w_fits w64 (w-of w16 c.ranges.p) (lit< tt))

pub returns : goal.returns
returns c = let p = c.args.p in
    let e = rw (to_z-of_z c.ranges.p, w-back w64 (w-of w16 c.ranges.p) (lit< tt)) at c.hold.ensures in
    rw (to_z-of_z {w = w64} {z = c.hold.result} (sfits_of c.hold.type_inv)) (e, rw e (held-within p 499))
