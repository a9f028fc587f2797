-- None past 15, 128 on channel 9, else the bank that was taken.
use Rattle.std.proofs.Common.{ap, ◌∙◌, le-ltb, lt-ltb, eq-eqb, ne_eqb}
use Rattle.voice.specs.declared.Channel.{Channel}
use Rattle.events.specs.Striking.{channel_bank}
use Rattle.engine.specs.Presets.{sought_bank}
use Rattle.engine.proofs.presets.channel_bank.Goals as goal

pub returns-then-channel-gt15 : goal.returns-then-channel-gt15
unfolding sought_bank
returns-then-channel-gt15 c = simp (lt-ltb _ _ c.if-channel-gt15.true)

pub returns-then-channel-eq9 : goal.returns-then-channel-eq9
unfolding sought_bank channel_bank
returns-then-channel-eq9 c = simp (le-ltb _ _ c.if-channel-gt15.false, eq-eqb _ _ c.if-channel-eq9.true)

pub returns : goal.returns
unfolding sought_bank channel_bank
returns c = ap (λ (x : Channel). x.bank) c.channel_of-c.ensures ∙ simp (le-ltb _ _ c.if-channel-gt15.false, ne_eqb _ _ c.if-channel-eq9.false)
