-- Letting off all the held ones, as the pedal stands.
use mathlib.Core.Path.{ap, ◌∙◌}
use mathlib.Core.Bool.{Bool}
use Rattle.state.specs.Answers.{Answered}
use Rattle.events.specs.declared.Whom.TheVariants.{Every}
use Rattle.events.specs.Keys.{off}
use Rattle.events.specs.Internal.Keys.{off_all}
use Rattle.events.proofs.controls.every_off.Goals as goal

pub returns : goal.returns
unfolding off off_all
returns c = let a = c.args in
    ap (λ (x : Answered). x.engine) c.off_all.ensures
    ∙ ap (λ (b : Bool). (off_all a.channel Every b a.e).engine) c.is_down-down.ensures
