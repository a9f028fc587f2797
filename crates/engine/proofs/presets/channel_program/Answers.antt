-- None past 15, else the channel's.
use Rattle.std.proofs.Common.{ap, ◌∙◌, le-ltb, lt-ltb}
use Rattle.voice.specs.declared.Channel.{Channel}
use Rattle.engine.specs.Presets.{sought_program}
use Rattle.engine.proofs.presets.channel_program.Goals as goal

pub returns-then-channel-gt15 : goal.returns-then-channel-gt15
unfolding sought_program
returns-then-channel-gt15 c = simp (lt-ltb _ _ c.if-channel-gt15.true)

pub returns : goal.returns
unfolding sought_program
returns c = ap (λ (x : Channel). x.program) c.channel_of-c.ensures ∙ simp (le-ltb _ _ c.if-channel-gt15.false)
