-- Each stage is shown as its line of the definition says.
use mathlib.Core.Path.{sym, ap, ◌∙◌}
use Prim.Native.Nat.{ℕ}
use Rattle.voice.specs.Panel.{level_of, stage_shown}
use Rattle.curves.specs.Levels.{gain_of}
use Rattle.voice.specs.declared.Shown.TheVariants as is
use Rattle.voice.proofs.panel.show_stage.Goals as goal

pub returns-in-Delay : goal.returns-in-Delay
returns-in-Delay c = sym (ap (stage_shown c.args.v) c.in-Delay.is)

pub returns-in-Attack : goal.returns-in-Attack
returns-in-Attack c = let v = c.args.v in
    ap is.Attack (c.level_unit.ensures.0 ∙ ap level_of c.level_at.ensures.0) ∙ sym (ap (stage_shown v) c.in-Attack.is)

pub returns-in-Hold : goal.returns-in-Hold
returns-in-Hold c = sym (ap (stage_shown c.args.v) c.in-Hold.is)

pub returns-in-Release : goal.returns-in-Release
returns-in-Release c = let v = c.args.v in
    ap is.Release (c.gain_unit-in-Release.ensures ∙ ap (λ (a : ℕ). level_of (gain_of a)) c.release_at.ensures.0)
    ∙ sym (ap (stage_shown v) c.in-Release.is)
