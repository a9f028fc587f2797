-- The voice released, by the contracts of the stage at release and of the move.
use mathlib.Core.Bool.{false}
use mathlib.Core.Path.{ap, ◌∙◌}
use Rattle.voice.specs.Release.{release}
use Rattle.voice.specs.Changes.{with_moved}
use Rattle.voice.specs.declared.Stage.{Stage}
use Rattle.voice.proofs.release.let_off.Goals as goal

pub returns : goal.returns
unfolding release
returns c = let v = c.args.v in
    c.with_moved.ensures ∙ ap (λ (s : Stage). with_moved v s v.place false) c.let_go-n.ensures
