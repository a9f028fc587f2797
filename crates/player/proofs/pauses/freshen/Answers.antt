-- Five calls, one after the other.
use Rattle.std.proofs.Common.{ap, ◌∙◌}
use Rattle.state.specs.Answers.{Answered}
use Rattle.state.specs.declared.Engine.{Engine}
use Rattle.events.specs.Bends.{pitch_bend}
use Rattle.events.specs.Controls.{control_change}
use Rattle.events.specs.Programs.{program_change}
use Rattle.player.specs.Pauses.{freshened}
use Rattle.player.proofs.pauses.freshen.Goals as goal

pub returns : goal.returns
unfolding freshened
returns c = let n = c.args.channel in
    ap (λ (x : Answered). x.engine) c.control_change-3.ensures
    ∙ ap (λ (x : Answered). (control_change n 11 127 x.engine).engine)
    (c.control_change-2.ensures
    ∙ ap (λ (x : Answered). control_change n 7 100 x.engine)
    (c.pitch_bend.ensures
    ∙ ap (λ (x : Answered). pitch_bend n 8192 x.engine)
    (c.program_change.ensures ∙ ap (λ (x : Answered). program_change n 0 x.engine) c.control_change.ensures)))
