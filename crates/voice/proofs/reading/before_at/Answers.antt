-- The first sample has none before it; before another stands the last one's.
use mathlib.Core.Path.{sym, ap, ◌∙◌}
use native.Mathlib.Omega.{arith}
use Rattle.voice.specs.Reading.{before}
use Rattle.voice.proofs.ReadingLaws.{before-is}
use borrow.Author.Rules.{sfits_of}
use mir.Facts.{to_z-of_z}
use mir.Syntax.{w16}
use Rattle.voice.proofs.reading.before_at.Goals as goal

pub returns-then-i-eq0 : goal.returns-then-i-eq0
unfolding before
returns-then-i-eq0 c = sym (ap (before c.args.w.now) c.if-i-eq0.true)

pub returns-else-i-eq0 : goal.returns-else-i-eq0
returns-else-i-eq0 c = let a = c.args in
    rw (to_z-of_z {w = w16} {z = c.sample_at.result} (sfits_of c.sample_at.type_inv))
    (c.sample_at.ensures ∙ before-is a.w.now a.i (omega (arith, c.if-i-eq0.false)))
