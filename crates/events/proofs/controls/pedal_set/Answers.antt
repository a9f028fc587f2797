-- The value stands; lifting lets off the marked ones.
use mathlib.Core.Path.{ap, ◌∙◌}
use mathlib.Core.Bool.{false}
use borrow.Author.Tests.{le-ltb, lt-ltb}
use Rattle.voice.specs.declared.Channel.{Channel}
use Rattle.state.specs.declared.Engine.{Engine}
use Rattle.state.specs.Answers.{Answered}
use Rattle.events.specs.declared.Whom.TheVariants.{Marked}
use Rattle.state.specs.Channels.{with_channel}
use Rattle.events.specs.Controls.{with_pedal, pedal}
use Rattle.events.specs.Internal.Keys.{off_all}
use Rattle.events.proofs.controls.pedal_set.Goals as goal

pub returns-then-value-ge64 : goal.returns-then-value-ge64
unfolding pedal
returns-then-value-ge64 c = let a = c.args in
    c.with_channel-x.ensures
    ∙ ap (λ (x : Channel). with_channel a.e a.channel (with_pedal x a.value)) c.channel_of-c.ensures
    ∙ simp (le-ltb a.value 64 c.if-value-ge64.true)

pub returns : goal.returns
unfolding pedal off_all
returns c = let a = c.args in
    let x = c.with_channel-x.ensures ∙ ap (λ (y : Channel). with_channel a.e a.channel (with_pedal y a.value)) c.channel_of-c.ensures in
    ap (λ (y : Answered). y.engine) c.off_all.ensures
    ∙ ap (λ (y : Engine). (off_all a.channel Marked false y).engine) x
    ∙ simp (lt-ltb a.value 64 c.if-value-ge64.false)
