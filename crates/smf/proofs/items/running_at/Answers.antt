-- `running_at` meets its contract.
use mathlib.Core.Path.{refl, sym, ◌∙◌}
use Rattle.smf.proofs.items.running_at.Goals as goal

pub returns-then-is_channel : goal.returns-then-is_channel
returns-then-is_channel c = rw (sym c.is_channel.ensures ∙ c.if-is_channel.true) c.spoken_at.ensures

pub returns : goal.returns
returns c = rw (sym c.is_channel.ensures ∙ c.if-is_channel.false) refl
