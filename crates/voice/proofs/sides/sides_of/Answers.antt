-- The shares of both sides' thousandths.
use mathlib.Core.Path.{ap, ◌∙◌}
use lib.Dec.{lit<}
use lib.IntN.{ℤ, pos, nat_abs, ◌+ℤ◌, ◌-ℤ◌}
use mir.Facts.{to_z-of_z}
use mir.Syntax.{w64}
use Rattle.arith.proofs.WithinLaws.{w-back}
use Rattle.voice.specs.Internal.Sides.{share}
use Rattle.voice.proofs.sides.sides_of.Goals as goal

pub returns : goal.returns
returns c = let f = c.ranges.p in
    let z = w-back w64 c.pan_of.ensures.1 (lit< tt) in
    let e = rw (to_z-of_z f) at c.pan_of.ensures.0 in
    let l = rw z at c.outs-k.ensures.0 ∙ ap (λ (q : ℤ). nat_abs (pos 500 -ℤ q)) e in
    let r = rw z at c.outs-k.ensures.2 ∙ ap (λ (q : ℤ). nat_abs (pos 500 +ℤ q)) e in
    (c.share_of-a.ensures.0 ∙ ap share l, c.share_of-a.ensures.1, c.share_of-b.ensures.0 ∙ ap share r, c.share_of-b.ensures.1)
