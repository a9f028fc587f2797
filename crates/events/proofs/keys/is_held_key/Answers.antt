-- It is held, and of the key.
use mathlib.Core.Path.{sym, ◌∙◌}
use borrow.Author.Tests.{not-true, not-false}
use Rattle.events.specs.Keys.{held_key}
use Rattle.events.proofs.keys.is_held_key.Goals as goal

pub returns-then-not-is_held : goal.returns-then-not-is_held
unfolding held_key
returns-then-not-is_held c = let k = c.is_held in
    let e = sym k.ensures ∙ not-true k.result c.if-not-is_held.true-raw in simp e

pub returns : goal.returns
unfolding held_key
returns c = let k = c.is_held in
    let e = sym k.ensures ∙ not-false k.result c.if-not-is_held.false-raw in simp e
