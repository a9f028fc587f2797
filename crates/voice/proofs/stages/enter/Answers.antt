-- Spent stages left, by the stage: each return by that case of `entered`, and its room by `entered-roomy`.
use native.Mathlib.Omega.{arith}
use mathlib.Core.Path.{◌≡◌, sym, ap, ◌∙◌}
use Rattle.voice.specs.declared.Stage.{Stage}
use Rattle.voice.proofs.StagesLaws.{Narrow, entered-roomy}
use Rattle.voice.specs.Internal.Stages.{Roomy}
use Rattle.voice.specs.Stages.{entered}
use Rattle.voice.proofs.stages.enter.Goals as goal

pub returns-in-Delay : goal.returns-in-Delay
returns-in-Delay c = let narrow : Narrow c.args.v = record { attack = omega arith; hold = omega arith; decay = omega arith; release = omega arith } in
    let both : (r : Stage) → r ≡ entered c.args.v c.args.s → (r ≡ entered c.args.v c.args.s) × Roomy c.args.v r = λ r e. entered-roomy c.args.v (narrow) c.args.s r e in
    both _ (c.from_delay.ensures ∙ sym (ap (entered c.args.v) c.in-Delay.is))

pub returns-in-Attack : goal.returns-in-Attack
returns-in-Attack c = let narrow : Narrow c.args.v = record { attack = omega arith; hold = omega arith; decay = omega arith; release = omega arith } in
    let both : (r : Stage) → r ≡ entered c.args.v c.args.s → (r ≡ entered c.args.v c.args.s) × Roomy c.args.v r = λ r e. entered-roomy c.args.v (narrow) c.args.s r e in
    both _ (c.from_attack.ensures ∙ sym (ap (entered c.args.v) c.in-Attack.is))

pub returns-in-Hold : goal.returns-in-Hold
returns-in-Hold c = let narrow : Narrow c.args.v = record { attack = omega arith; hold = omega arith; decay = omega arith; release = omega arith } in
    let both : (r : Stage) → r ≡ entered c.args.v c.args.s → (r ≡ entered c.args.v c.args.s) × Roomy c.args.v r = λ r e. entered-roomy c.args.v (narrow) c.args.s r e in
    both _ (c.from_hold.ensures ∙ sym (ap (entered c.args.v) c.in-Hold.is))

pub returns-in-Decay : goal.returns-in-Decay
returns-in-Decay c = let narrow : Narrow c.args.v = record { attack = omega arith; hold = omega arith; decay = omega arith; release = omega arith } in
    let both : (r : Stage) → r ≡ entered c.args.v c.args.s → (r ≡ entered c.args.v c.args.s) × Roomy c.args.v r = λ r e. entered-roomy c.args.v (narrow) c.args.s r e in
    both _ (c.from_decay.ensures ∙ sym (ap (entered c.args.v) c.in-Decay.is))

pub returns-in-Sustain : goal.returns-in-Sustain
returns-in-Sustain c = let narrow : Narrow c.args.v = record { attack = omega arith; hold = omega arith; decay = omega arith; release = omega arith } in
    let both : (r : Stage) → r ≡ entered c.args.v c.args.s → (r ≡ entered c.args.v c.args.s) × Roomy c.args.v r = λ r e. entered-roomy c.args.v (narrow) c.args.s r e in
    both _ (sym (ap (entered c.args.v) c.in-Sustain.is))

pub returns-in-Release : goal.returns-in-Release
returns-in-Release c = let narrow : Narrow c.args.v = record { attack = omega arith; hold = omega arith; decay = omega arith; release = omega arith } in
    let both : (r : Stage) → r ≡ entered c.args.v c.args.s → (r ≡ entered c.args.v c.args.s) × Roomy c.args.v r = λ r e. entered-roomy c.args.v (narrow) c.args.s r e in
    both _ (sym (ap (entered c.args.v) c.in-Release.is))
