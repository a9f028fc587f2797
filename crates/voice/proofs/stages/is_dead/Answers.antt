-- Whether the envelope has died away, by the stage: each return by that case of `dead`.
use lib.Dec.{leb}
use mathlib.Core.Path.{sym, ap, ◌∙◌}
use Rattle.voice.specs.Stages.{dead}
use Rattle.voice.proofs.stages.is_dead.Goals as goal

pub returns-in-Decay : goal.returns-in-Decay
returns-in-Decay c = let a = c.args in
    ap (leb 1000) c.decay_at.ensures ∙ sym (ap (dead a.v) c.in-Decay.is)

pub returns-in-Sustain : goal.returns-in-Sustain
returns-in-Sustain c = sym (ap (dead c.args.v) c.in-Sustain.is)

pub returns-in-Release : goal.returns-in-Release
returns-in-Release c = let a = c.args in
    ap (leb 1000) c.release_at.ensures.0 ∙ sym (ap (dead a.v) c.in-Release.is)
