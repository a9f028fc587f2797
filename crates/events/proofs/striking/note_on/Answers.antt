-- 2; velocity 0 as a note-off; then the bank.
use mathlib.Core.Path.{sym, ◌∙◌}
use borrow.Author.Tests.{eq-eqb, ne_eqb}
use Rattle.state.specs.Answers.{past_two}
use Rattle.state.proofs.AnswersLaws.{refuses, passes}
use Rattle.events.specs.Striking.{note_on}
use Rattle.events.specs.Internal.Striking.{bank_answer}
use Rattle.events.proofs.striking.note_on.Goals as goal

pub returns-then-past_two : goal.returns-then-past_two
unfolding note_on
returns-then-past_two c = let a = c.args in
    sym (refuses (past_two a.channel a.key a.velocity) a.e.now _ (sym c.past_two.ensures ∙ c.if-past_two.true))

pub returns-then-velocity-eq0 : goal.returns-then-velocity-eq0
unfolding note_on
returns-then-velocity-eq0 c = let a = c.args in
    c.off_key.ensures ∙ sym (passes (past_two a.channel a.key a.velocity) a.e.now _ (sym c.past_two.ensures ∙ c.if-past_two.false) ∙ simp (eq-eqb _ _ c.if-velocity-eq0.true))

pub returns : goal.returns
unfolding note_on bank_answer
returns c = let a = c.args in
    c.strike_bank.ensures ∙ sym (passes (past_two a.channel a.key a.velocity) a.e.now _ (sym c.past_two.ensures ∙ c.if-past_two.false) ∙ simp (ne_eqb _ _ c.if-velocity-eq0.false))
