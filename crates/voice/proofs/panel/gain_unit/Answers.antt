-- The gain is at most full, so its fraction is exact.
use mathlib.Core.Path.{ap, ◌∙◌}
use Rattle.voice.specs.Panel.{level_of}
use Rattle.voice.proofs.panel.gain_unit.Goals as goal

pub returns : goal.returns
returns c = c.level_unit.ensures.0 ∙ ap level_of c.gain.ensures.0
