-- Each control by its own rule.
use mathlib.Core.Path.{sym, ap, ◌∙◌}
use Prim.Native.Nat.{ℕ}
use borrow.Author.Tests.{ne_eqb}
use Rattle.voice.specs.declared.Channel.{Channel}
use Rattle.state.specs.Channels.{with_channel}
use Rattle.events.specs.Controls.{with_stored, with_volume, with_expression, controlled}
use Rattle.events.proofs.controls.control_one.Goals as goal

pub returns-in-0 : goal.returns-in-0
unfolding controlled
returns-in-0 c = let a = c.args in
    c.with_channel.ensures
    ∙ ap (with_channel a.e a.channel) (c.with_stored.ensures ∙ ap (λ (x : Channel). with_stored x a.value) c.channel_of-c.ensures)
    ∙ sym (ap (λ (k : ℕ). controlled a.channel k a.value a.e) c.in-0.is)

pub returns-in-7 : goal.returns-in-7
unfolding controlled
returns-in-7 c = let a = c.args in
    c.with_channel-in-7.ensures
    ∙ ap (with_channel a.e a.channel) (c.with_volume.ensures ∙ ap (λ (x : Channel). with_volume x a.value) c.channel_of-c.ensures)
    ∙ sym (ap (λ (k : ℕ). controlled a.channel k a.value a.e) c.in-7.is)

pub returns-in-11 : goal.returns-in-11
unfolding controlled
returns-in-11 c = let a = c.args in
    c.with_channel-in-11.ensures
    ∙ ap (with_channel a.e a.channel) (c.with_expression.ensures ∙ ap (λ (x : Channel). with_expression x a.value) c.channel_of-c.ensures)
    ∙ sym (ap (λ (k : ℕ). controlled a.channel k a.value a.e) c.in-11.is)

pub returns-in-64 : goal.returns-in-64
unfolding controlled
returns-in-64 c = let a = c.args in
    c.pedal_set.ensures ∙ sym (ap (λ (k : ℕ). controlled a.channel k a.value a.e) c.in-64.is)

pub returns-in-120 : goal.returns-in-120
unfolding controlled
returns-in-120 c = let a = c.args in
    c.silenced.ensures ∙ sym (ap (λ (k : ℕ). controlled a.channel k a.value a.e) c.in-120.is)

pub returns-in-123 : goal.returns-in-123
unfolding controlled
returns-in-123 c = let a = c.args in
    c.every_off.ensures ∙ sym (ap (λ (k : ℕ). controlled a.channel k a.value a.e) c.in-123.is)

pub returns-in_default : goal.returns-in_default
unfolding controlled
returns-in_default c = let k = c.args.control in
    let r = c.in_default.in_default-own.rest in
    simp (ne_eqb k 0 r.0.0.0.0.0.1, ne_eqb k 7 r.0.0.0.0.1, ne_eqb k 11 r.0.0.0.1, ne_eqb k 64 r.0.0.1, ne_eqb k 120 r.0.1, ne_eqb k 123 r.1)
