-- It is of the channel, not released and not marked.
use mathlib.Core.Path.{sym, ◌∙◌}
use borrow.Author.Tests.{not-true, not-false}
use Rattle.events.specs.Keys.{held}
use Rattle.events.proofs.keys.is_held.Goals as goal

pub returns-then-not-of_channel : goal.returns-then-not-of_channel
unfolding held
returns-then-not-of_channel c = let k = c.of_channel in
    let e = sym k.ensures ∙ not-true k.result c.if-not-of_channel.true-raw in simp e

pub returns-then-is_released : goal.returns-then-is_released
unfolding held
returns-then-is_released c = let k = c.of_channel in
    let e = sym k.ensures ∙ not-false k.result c.if-not-of_channel.false-raw in
    let r = sym c.is_released.ensures ∙ c.if-is_released.true in
    simp (e, r)

pub returns : goal.returns
unfolding held
returns c = let k = c.of_channel in
    let e = sym k.ensures ∙ not-false k.result c.if-not-of_channel.false-raw in
    let r = sym c.is_released.ensures ∙ c.if-is_released.false in
    simp (e, r)
