-- What is not picked stays.
use mathlib.Core.Path.{sym, ap, ◌∙◌}
use borrow.Author.Tests.{not-true, not-false}
use Rattle.state.specs.Slots.{with_voice}
use Rattle.events.specs.Keys.{let_off}
use Rattle.events.specs.Internal.Keys.{picked}
use Rattle.events.proofs.KeysLaws.{off-keeps}
use Rattle.events.proofs.keys.off_one.Goals as goal

pub returns-then-not-is_picked : goal.returns-then-not-is_picked
returns-then-not-is_picked c = let a = c.args in
    let k = c.is_picked in
    sym (off-keeps a.down (picked a.channel a.whom) a.s (sym k.ensures ∙ not-true k.result c.if-not-is_picked.true-raw))

pub returns : goal.returns
unfolding let_off
returns c = let a = c.args in
    let k = c.is_picked in
    let e = sym k.ensures ∙ not-false k.result c.if-not-is_picked.false-raw in
    ap (with_voice a.s) c.off_voice.ensures ∙ simp e
