-- It is of the channel, and marked.
use mathlib.Core.Path.{sym, ◌∙◌}
use borrow.Author.Tests.{not-true, not-false}
use Rattle.events.specs.Keys.{pedal_held}
use Rattle.events.proofs.keys.is_pedal_held.Goals as goal

pub returns-then-not-of_channel : goal.returns-then-not-of_channel
unfolding pedal_held
returns-then-not-of_channel c = let k = c.of_channel in
    let e = sym k.ensures ∙ not-true k.result c.if-not-of_channel.true-raw in simp e

pub returns : goal.returns
unfolding pedal_held
returns c = let k = c.of_channel in
    let e = sym k.ensures ∙ not-false k.result c.if-not-of_channel.false-raw in simp e
