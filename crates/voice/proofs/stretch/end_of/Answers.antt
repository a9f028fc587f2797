-- By whether it folds.
use mathlib.Core.Path.{sym, ap, ◌∙◌}
use mathlib.Core.Bool.{Bool, cond}
use borrow.Author.Rules.{rules}
use Rattle.voice.specs.Motion.{span}
use Rattle.voice.proofs.stretch.end_of.Goals as goal

pub returns-then-is_folding : goal.returns-then-is_folding
returns-then-is_folding c = let v = c.args.v in
    (sym (ap (λ (f : Bool). cond f v.loopto (span v)) (sym c.is_folding.ensures ∙ c.if-is_folding.true)), search rules)

pub returns : goal.returns
returns c = let v = c.args.v in (
  c.span_of.ensures.0 ∙ sym (ap (λ (f : Bool). cond f v.loopto (span v)) (sym c.is_folding.ensures ∙ c.if-is_folding.false)),
  c.span_of.ensures.1,
)
