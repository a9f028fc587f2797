-- Refused past its ranges, else by its control.
use mathlib.Core.Path.{sym, ap, ◌∙◌}
use Rattle.state.specs.Answers.{done, past_two}
use Rattle.state.proofs.AnswersLaws.{refuses, passes, two-low}
use Rattle.events.specs.Controls.{control_change}
use Rattle.events.proofs.controls.control_change.Goals as goal

pub returns-then-past_two : goal.returns-then-past_two
unfolding control_change
returns-then-past_two c = let a = c.args in
    let p = c.past_two in
    sym (refuses (past_two a.channel a.control a.value) a.e.now _ (sym p.ensures ∙ c.if-past_two.true))

pub returns : goal.returns
unfolding control_change
returns c = let a = c.args in
    let q = sym c.past_two.ensures ∙ c.if-past_two.false in
    ap (done 0) c.control_one.ensures ∙ sym (passes (past_two a.channel a.control a.value) a.e.now _ q)
