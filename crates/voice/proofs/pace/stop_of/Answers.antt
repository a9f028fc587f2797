-- The stop, by the stage: each return by that case of `stop_in`.
use mathlib.Core.Path.{sym, ap, ◌∙◌}
use native.Mathlib.Omega.{arith}
use Rattle.voice.specs.Internal.Pace.{stop_if, stop_in}
use Rattle.voice.proofs.pace.stop_of.Goals as goal

pub returns-in-Delay : goal.returns-in-Delay
returns-in-Delay c = (sym (ap (stop_in c.args.v) c.in-Delay.is), omega arith)

pub returns-in-Attack : goal.returns-in-Attack
returns-in-Attack c = let a = c.args in
    (c.stop_if.ensures.0 ∙ sym (ap (stop_in a.v) c.in-Attack.is), omega (arith, c.stop_if.ensures.1))

pub returns-in-Hold : goal.returns-in-Hold
returns-in-Hold c = let a = c.args in
    (sym (ap (stop_in a.v) c.in-Hold.is), omega arith)

pub returns-in-Sustain : goal.returns-in-Sustain
returns-in-Sustain c = let a = c.args in
    (c.left_of.ensures ∙ sym (ap (stop_in a.v) c.in-Sustain.is), omega (arith, c.left_of.ensures))

pub returns-in-Release : goal.returns-in-Release
returns-in-Release c = let a = c.args in (
  c.stop_if-in-Release.ensures.0 ∙ ap (stop_if a.v.release) c.left_of-in-Release.ensures ∙ sym (ap (stop_in a.v) c.in-Release.is),
  omega (arith, c.stop_if-in-Release.ensures.1, c.left_of-in-Release.ensures),
)
