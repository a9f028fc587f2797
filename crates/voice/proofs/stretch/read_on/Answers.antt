-- Four samples of the window.
use mathlib.Core.Path.{ap, ◌∙◌}
use Prim.Native.Nat.{◌/◌, ◌%◌, ◌+◌}
use native.Mathlib.Omega.{arith}
use lib.Dec.{lit<}
use lib.IntN.{ℤ}
use mir.Facts.{to_z-of_z}
use mir.Syntax.{w16, w64}
use borrow.Author.Rules.{sfits_of}
use Rattle.arith.proofs.WithinLaws.{w-back}
use Rattle.voice.specs.Reading.{sample, interpolated}
use Rattle.voice.proofs.ReadingLaws.{before-is}
use Rattle.voice.proofs.stretch.read_on.Goals as goal

pub returns : goal.returns
returns c = let w = c.args.w.now in
    let i = c.args.p / 16777216 in
    let q = c.args.p % 16777216 / 4096 in
    let e = rw (to_z-of_z {w = w16} (sfits_of c.x0-1.given), to_z-of_z {w = w16} (sfits_of c.x1-1.given), to_z-of_z {w = w16} (sfits_of c.x2-1.given), to_z-of_z {w = w16} (sfits_of c.x3-1.given)) at c.reading_of.ensures.0 in
    rw (w-back w64 c.reading_of.ensures.1 (lit< tt))
    (e ∙ ap (λ (p : ℤ). interpolated p (sample w i) (sample w (i + 1)) (sample w (i + 2)) q) (before-is w i (omega (arith, c.requires.0))), c.reading_of.ensures.1)
