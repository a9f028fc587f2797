-- The pace, by the stage.
use mathlib.Core.Path.{◌≡◌, sym, subst}
use Rattle.voice.specs.declared.Stage.{Stage}
use Rattle.voice.specs.declared.Voice.{Voice}
use Rattle.voice.specs.declared.pace.Pace.{Pace}
use Rattle.voice.specs.Internal.Pace.{some, PaceAt}
use Rattle.voice.proofs.pace.pace_of.Goals as goal

-- what is shown of the stage that the match found is shown of s
seen : (v : Voice) (c : Pace) (s g : Stage) → s ≡ g → PaceAt v g c → PaceAt v s c
seen v c s g e h = subst (λ (x : Stage). PaceAt v x c) (sym e) h

pub returns-in-Delay : goal.returns-in-Delay
unfolding some
returns-in-Delay c = seen c.args.v _ c.args.s _ c.in-Delay.is c.paced.ensures

pub returns-in-Attack : goal.returns-in-Attack
returns-in-Attack c = seen c.args.v _ c.args.s _ c.in-Attack.is c.paced-in-Attack.ensures

pub returns-in-Hold : goal.returns-in-Hold
unfolding some
returns-in-Hold c = seen c.args.v _ c.args.s _ c.in-Hold.is c.paced-in-Hold.ensures

pub returns-in-Decay : goal.returns-in-Decay
returns-in-Decay c = seen c.args.v _ c.args.s _ c.in-Decay.is c.paced-in-Decay.ensures

pub returns-in-Sustain : goal.returns-in-Sustain
unfolding some
returns-in-Sustain c = seen c.args.v _ c.args.s _ c.in-Sustain.is c.paced-in-Sustain.ensures

pub returns-in-Release : goal.returns-in-Release
returns-in-Release c = seen c.args.v _ c.args.s _ c.in-Release.is c.paced-in-Release.ensures
