-- It is of the channel, and its class is one of the layers'.
use mathlib.Core.Path.{sym, ◌∙◌}
use Rattle.events.specs.Starting.{rival}
use Rattle.events.proofs.starting.is_rival.Goals as goal

pub returns-then-of_channel : goal.returns-then-of_channel
unfolding rival
returns-then-of_channel c = let e = sym c.of_channel.ensures ∙ c.if-of_channel.true in simp e c.class_in.ensures

pub returns-else-of_channel : goal.returns-else-of_channel
unfolding rival
returns-else-of_channel c = let e = sym c.of_channel.ensures ∙ c.if-of_channel.false in c.if-of_channel.false ∙ simp e
