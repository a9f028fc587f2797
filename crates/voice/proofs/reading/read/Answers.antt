-- The reading, by the contracts of the four samples and of the reading between them.
use borrow.Author.Rules.{sfits_of}
use lib.Dec.{lit<}
use lib.IntN.{ℤ}
use mir.Syntax.{w64, w16}
use mir.Facts.{to_z-of_z}
use Prim.Native.Nat.{◌%◌, ◌/◌}
use native.Mathlib.Omega.{arith}
use mathlib.Core.Path.{ap₂, ap, ◌∙◌}
use Rattle.arith.proofs.WithinLaws.{w-back}
use Rattle.voice.proofs.ReadingLaws.{behind-lt}
use Rattle.voice.specs.Reading.{behind, before, interpolated, reading, sample}
use Rattle.voice.proofs.reading.read.Goals as goal

pub behind_at-k-requires : goal.behind_at-k-requires
behind_at-k-requires c = let a = c.args in
    omega (arith, c.behind_at-j.ensures, behind-lt a.folding a.from a.to (a.place / 16777216) 1099511627776 (omega arith) (λ e. omega arith))

pub returns : goal.returns
unfolding reading
returns c = let a = c.args in
    let w = a.w.now in
    let e0 = to_z-of_z {w = w16} {z = c.before_at-x0.result} (sfits_of c.before_at-x0.type_inv) in
    let e1 = to_z-of_z {w = w16} {z = c.sample_at-x1.result} (sfits_of c.sample_at-x1.type_inv) in
    let e2 = to_z-of_z {w = w16} {z = c.sample_at-x2.result} (sfits_of c.sample_at-x2.type_inv) in
    let e3 = to_z-of_z {w = w16} {z = c.sample_at-x3.result} (sfits_of c.sample_at-x3.type_inv) in
    let e = rw (e0, e1, e2, e3) at c.reading_of.ensures.0 in
    let two = c.sample_at-x2.ensures ∙ ap (sample w) c.behind_at-j.ensures in
    let three =
    c.sample_at-x3.ensures
    ∙ ap (sample w) (c.behind_at-k.ensures ∙ ap (behind a.folding a.from a.to) c.behind_at-j.ensures) in
    rw (w-back w64 c.reading_of.ensures.1 (lit< tt)) (
      e
          ∙ ap₂ (λ (p q : ℤ). interpolated p q c.sample_at-x2.result c.sample_at-x3.result (a.place % 16777216 / 4096)) c.before_at-x0.ensures c.sample_at-x1.ensures
          ∙ ap₂ (λ (p q : ℤ). interpolated (before w (a.place / 16777216)) (sample w (a.place / 16777216)) p q (a.place % 16777216 / 4096)) two three,
      c.reading_of.ensures.1,
    )
