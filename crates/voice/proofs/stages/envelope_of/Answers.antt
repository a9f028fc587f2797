-- The envelope's cB, by the stage: each return by that case of `envelope`.
use mathlib.Core.Path.{sym, ap, ◌∙◌}
use Rattle.voice.specs.Stages.{envelope}
use Rattle.voice.proofs.stages.envelope_of.Goals as goal

pub returns-in-Release : goal.returns-in-Release
returns-in-Release c = let a = c.args in
    (c.release_at.ensures.0 ∙ sym (ap (envelope a.v) c.in-Release.is), c.release_at.ensures.1)
