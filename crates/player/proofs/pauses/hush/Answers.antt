-- The pedal, and then the keys.
use Rattle.std.proofs.Common.{ap, ◌∙◌}
use Rattle.state.specs.Answers.{Answered}
use Rattle.state.specs.declared.Engine.{Engine}
use Rattle.events.specs.Controls.{control_change}
use Rattle.player.specs.Pauses.{hushed}
use Rattle.player.proofs.pauses.hush.Goals as goal

pub returns : goal.returns
unfolding hushed
returns c = let n = c.args.channel in
    ap (λ (x : Answered). x.engine) c.control_change-2.ensures
    ∙ ap (λ (x : Answered). (control_change n 123 0 x.engine).engine) c.control_change.ensures
