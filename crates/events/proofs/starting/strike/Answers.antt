-- Rivals first, then the layers.
use mathlib.Core.Path.{ap, ◌∙◌}
use Rattle.state.specs.declared.Engine.{Engine}
use Rattle.events.specs.Starting.{Started, start_all, struck}
use Rattle.events.specs.Internal.Starting.{begin}
use Rattle.events.proofs.starting.strike.Goals as goal

pub returns : goal.returns
unfolding struck
returns c = let a = c.args in
    ap (λ (x : Started). x.engine) c.start_all-b.ensures
    ∙ ap (λ (x : Engine). (start_all a.voices.now (begin x)).engine) c.clear_rivals-x.ensures
