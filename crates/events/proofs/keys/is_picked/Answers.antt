-- Each case has its own test.
use mathlib.Core.Path.{sym, ap, ◌∙◌}
use Rattle.events.specs.declared.Whom.{Whom}
use Rattle.events.specs.Internal.Keys.{picked}
use Rattle.events.proofs.keys.is_picked.Goals as goal

pub returns-in-Key : goal.returns-in-Key
returns-in-Key c = let a = c.args in
    c.is_held_key.ensures ∙ sym (ap (λ (w : Whom). picked a.channel w a.s) c.in-Key.is)

pub returns-in-Every : goal.returns-in-Every
returns-in-Every c = let a = c.args in
    c.is_held.ensures ∙ sym (ap (λ (w : Whom). picked a.channel w a.s) c.in-Every.is)

pub returns-in-Marked : goal.returns-in-Marked
returns-in-Marked c = let a = c.args in
    c.is_pedal_held.ensures ∙ sym (ap (λ (w : Whom). picked a.channel w a.s) c.in-Marked.is)
