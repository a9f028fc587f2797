-- The stage at release, by the stage before it: each return by that case of `let_go`.
use Prim.Native.Nat.{ℕ}
use mathlib.Core.Path.{sym, ap, ◌∙◌}
use Rattle.voice.specs.Release.{let_go}
use Rattle.curves.specs.Levels.{least_cb}
use Rattle.voice.specs.declared.Stage.TheVariants.{Release}
use Rattle.voice.proofs.release.let_go.Goals as goal

pub returns-in-Delay : goal.returns-in-Delay
returns-in-Delay c = sym (ap (let_go c.args.v) c.in-Delay.is)

pub returns-in-Attack : goal.returns-in-Attack
returns-in-Attack c = let v = c.args.v in
    ap (λ (x : ℕ). Release x 0) (c.least_cb.ensures ∙ ap least_cb c.level_at.ensures.0) ∙ sym (ap (let_go v) c.in-Attack.is)

pub returns-in-Hold : goal.returns-in-Hold
returns-in-Hold c = sym (ap (let_go c.args.v) c.in-Hold.is)

pub returns-in-Decay : goal.returns-in-Decay
returns-in-Decay c = let v = c.args.v in
    ap (λ (x : ℕ). Release x 0) c.decay_at.ensures ∙ sym (ap (let_go v) c.in-Decay.is)

pub returns-in-Sustain : goal.returns-in-Sustain
returns-in-Sustain c = sym (ap (let_go c.args.v) c.in-Sustain.is)

pub returns-in-Release : goal.returns-in-Release
returns-in-Release c = sym (ap (let_go c.args.v) c.in-Release.is)
