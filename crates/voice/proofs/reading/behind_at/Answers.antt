-- The sample behind sample i: each return by what the tests before it say of `behind`.
use borrow.Author.Tests.{eq-eqb, ne_eqb, not-true, not-false}
use Rattle.voice.specs.Reading.{behind}
use Rattle.voice.proofs.reading.behind_at.Goals as goal

pub returns-then-not-folding : goal.returns-then-not-folding
unfolding behind
returns-then-not-folding c = simp (not-true c.args.folding c.if-not-folding.true-raw)

pub returns-then-i-to : goal.returns-then-i-to
unfolding behind
returns-then-i-to c = let a = c.args in simp (not-false a.folding c.if-not-folding.false-raw, eq-eqb _ _ c.if-i-to.true)

pub returns : goal.returns
unfolding behind
returns c = let a = c.args in simp (not-false a.folding c.if-not-folding.false-raw, ne_eqb _ _ c.if-i-to.false)
