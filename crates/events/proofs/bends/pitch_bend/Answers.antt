-- Past its test, the channel is the old one with one part replaced.
use mathlib.Core.Path.{sym, ap, ◌∙◌}
use Rattle.voice.specs.declared.Channel.{Channel}
use Rattle.state.specs.Channels.{with_channel}
use Rattle.events.specs.Bends.{with_bend, pitch_bend}
use Rattle.state.specs.Answers.{done, past_bend}
use Rattle.state.proofs.AnswersLaws.{refuses, passes, bend-low}
use Rattle.events.proofs.bends.pitch_bend.Goals as goal

pub returns-then-past_bend : goal.returns-then-past_bend
unfolding pitch_bend
returns-then-past_bend c = let a = c.args in
    let p = c.past_bend in
    sym (refuses (past_bend a.channel a.bend) a.e.now _ (sym p.ensures ∙ c.if-past_bend.true))

pub returns : goal.returns
unfolding pitch_bend
returns c = let a = c.args in
    let q = sym c.past_bend.ensures ∙ c.if-past_bend.false in
    let put = ap (λ (x : Channel). with_channel a.e.now a.channel (with_bend x a.bend)) c.channel_of-c.ensures in
    ap (done 0) (c.with_channel.ensures ∙ put) ∙ sym (passes (past_bend a.channel a.bend) a.e.now _ q)
