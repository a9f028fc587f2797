-- Letting off the held ones of the key, as the pedal stands.
use mathlib.Core.Path.{ap, ◌∙◌}
use mathlib.Core.Bool.{Bool}
use Rattle.events.specs.declared.Whom.TheVariants.{Key}
use Rattle.events.specs.Keys.{off, off_key}
use Rattle.events.specs.Internal.Keys.{off_all}
use Rattle.events.proofs.keys.off_key.Goals as goal

pub returns : goal.returns
unfolding off off_key off_all
returns c = let a = c.args in
    c.off_all-count.ensures ∙ ap (λ (b : Bool). off_all a.channel (Key a.key) b a.e.now) c.is_down-down.ensures
