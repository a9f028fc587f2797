-- The cB, by the stage: each return by that case of `cb_in`.
use mathlib.Core.Path.{sym, ap, ◌∙◌}
use native.Mathlib.Omega.{arith}
use Rattle.voice.specs.declared.Stage.{Stage}
use Rattle.voice.specs.Internal.Pace.{cb_in}
use Rattle.voice.proofs.pace.cb_in.Goals as goal

pub returns-in-Decay : goal.returns-in-Decay
returns-in-Decay c = let a = c.args in (sym (ap (λ (s : Stage). cb_in a.v s a.value) c.in-Decay.is), omega (arith, c.requires))

pub returns-in-Release : goal.returns-in-Release
returns-in-Release c = let a = c.args in
    (c.fallen.ensures.0 ∙ sym (ap (λ (s : Stage). cb_in a.v s a.value) c.in-Release.is), c.fallen.ensures.1)
