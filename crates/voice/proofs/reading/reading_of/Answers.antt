-- The reading of four samples, each widened to 64 bits.
use mathlib.Core.Path.{◌≡◌, ap, ◌∙◌}
use native.Mathlib.Nat.{le_of_lt}
use lib.Dec.{lit<}
use lib.IntN.{ℤ, pos, negsuc}
use mir.Facts.{to_z-of_z}
use mir.Syntax.{w16, w64}
use mir.Val.{SFits, to_z, of_z}
use borrow.Author.Rules.{sfits_of}
use Rattle.arith.specs.Holds.{held_to}
use Rattle.arith.proofs.WithinLaws.{w-of, w-nat, w_fits, w-back}
use Rattle.voice.proofs.ReadingLaws.{interpolated-is, interpolated-in}
use Rattle.voice.specs.Reading.{interpolated}
use Rattle.voice.proofs.reading.reading_of.Goals as goal

abbrev back16 : {z : ℤ} → SFits w16 z → to_z w64 (of_z w64 z) ≡ z
back16 h = w-back w64 (w-of w16 h) (lit< tt)

pub overflow_cast-x0 : goal.overflow_cast-x0
overflow_cast-x0 c = rw (to_z-of_z c.ranges.x0) (w_fits w64 (w-of w16 c.ranges.x0) (lit< tt))

pub overflow_cast-x1 : goal.overflow_cast-x1
overflow_cast-x1 c = rw (to_z-of_z c.ranges.x1) (w_fits w64 (w-of w16 c.ranges.x1) (lit< tt))

pub overflow_cast-x2 : goal.overflow_cast-x2
overflow_cast-x2 c = rw (to_z-of_z c.ranges.x2) (w_fits w64 (w-of w16 c.ranges.x2) (lit< tt))

pub overflow_cast-x3 : goal.overflow_cast-x3
overflow_cast-x3 c = rw (to_z-of_z c.ranges.x3) (w_fits w64 (w-of w16 c.ranges.x3) (lit< tt))

pub curved-x-requires : goal.curved-x-requires
curved-x-requires c = let f = c.ranges in
    rw (to_z-of_z f.x0, to_z-of_z f.x1, to_z-of_z f.x2, to_z-of_z f.x3, back16 f.x0, back16 f.x1, back16 f.x2, back16 f.x3, w-back w64 (w-nat (le_of_lt c.requires)) (lit< tt))
    (record { points = (w-of w16 f.x0, w-of w16 f.x1, w-of w16 f.x2, w-of w16 f.x3); part = w-nat (le_of_lt c.requires) })

pub returns : goal.returns
returns c = let f = c.ranges in
    let a = c.args in
    let e = rw (to_z-of_z f.x0, to_z-of_z f.x1, to_z-of_z f.x2, to_z-of_z f.x3, back16 f.x0, back16 f.x1, back16 f.x2, back16 f.x3, w-back w64 (w-nat (le_of_lt c.requires)) (lit< tt)) at c.curved-x.ensures.0 in
    let r : c.hold.result ≡ interpolated a.x0 a.x1 a.x2 a.x3 a.q =
    rw (w-back w64 c.curved-x.ensures.1 (lit< tt)) at c.hold.ensures
    ∙ ap (λ (x : ℤ). held_to (negsuc 32767) (pos 32767) x) e
    ∙ interpolated-is a.x0 a.x1 a.x2 a.x3 a.q in
    rw (to_z-of_z {w = w64} {z = c.hold.result} (sfits_of c.hold.type_inv)) (r, rw r (interpolated-in a.x0 a.x1 a.x2 a.x3 a.q))
