-- 128 on channel 9, else the bank that was taken.
use mathlib.Core.Path.{ap, ◌∙◌}
use borrow.Author.Tests.{eq-eqb, ne_eqb}
use Rattle.voice.specs.declared.Channel.{Channel}
use Rattle.events.specs.Striking.{channel_bank}
use Rattle.events.proofs.striking.bank_number.Goals as goal

pub returns-then-channel-eq9 : goal.returns-then-channel-eq9
unfolding channel_bank
returns-then-channel-eq9 c = simp (eq-eqb _ _ c.if-channel-eq9.true)

pub returns : goal.returns
unfolding channel_bank
returns c = ap (λ (x : Channel). x.bank) c.channel_of-c.ensures ∙ simp (ne_eqb _ _ c.if-channel-eq9.false)
