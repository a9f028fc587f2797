-- Refused past its ranges, else the key is let off.
use mathlib.Core.Path.{sym, ◌∙◌}
use Rattle.state.specs.Answers.{past_one}
use Rattle.state.proofs.AnswersLaws.{refuses, passes}
use Rattle.events.specs.Keys.{note_off}
use Rattle.events.proofs.keys.note_off.Goals as goal

pub returns-then-past_one : goal.returns-then-past_one
unfolding note_off
returns-then-past_one c = let a = c.args in
    let p = c.past_one in
    sym (refuses (past_one a.channel a.key) a.e.now _ (sym p.ensures ∙ c.if-past_one.true))

pub returns : goal.returns
unfolding note_off
returns c = let a = c.args in
    let p = c.past_one in
    c.off_key.ensures ∙ sym (passes (past_one a.channel a.key) a.e.now _ (sym p.ensures ∙ c.if-past_one.false))
