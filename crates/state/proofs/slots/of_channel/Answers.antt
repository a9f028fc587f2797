-- It sounds, and is of the channel.
use borrow.Author.Tests.{not-true, not-false}
use Rattle.state.specs.Slots.{of_channel}
use Rattle.state.proofs.slots.of_channel.Goals as goal

pub returns-then-not-s : goal.returns-then-not-s
unfolding of_channel
returns-then-not-s c = let a = c.args in simp (not-true a.s.sounding c.if-not-s.true)

pub returns : goal.returns
unfolding of_channel
returns c = let a = c.args in simp (not-false a.s.sounding c.if-not-s.false)
