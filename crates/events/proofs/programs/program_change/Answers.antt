-- Past its test, the channel is the old one with one part replaced.
use mathlib.Core.Path.{sym, ap, ◌∙◌}
use Rattle.voice.specs.declared.Channel.{Channel}
use Rattle.state.specs.Channels.{with_channel}
use Rattle.events.specs.Programs.{with_program, program_change}
use Rattle.state.specs.Answers.{done, past_one}
use Rattle.state.proofs.AnswersLaws.{refuses, passes, one-low}
use Rattle.events.proofs.programs.program_change.Goals as goal

pub returns-then-past_one : goal.returns-then-past_one
unfolding program_change
returns-then-past_one c = let a = c.args in
    let p = c.past_one in
    sym (refuses (past_one a.channel a.program) a.e.now _ (sym p.ensures ∙ c.if-past_one.true))

pub returns : goal.returns
unfolding program_change
returns c = let a = c.args in
    let q = sym c.past_one.ensures ∙ c.if-past_one.false in
    let put = ap (λ (x : Channel). with_channel a.e.now a.channel (with_program x a.program)) c.channel_of-c.ensures in
    ap (done 0) (c.with_channel.ensures ∙ put) ∙ sym (passes (past_one a.channel a.program) a.e.now _ q)
