-- The panel names the stage, and its levels are exact.
use mathlib.Core.Bool.{Bool, true, false, cond}
use Prim.Native.Nat.{ℕ, ◌<◌}
use mathlib.Core.Path.{◌≡◌, refl, ap, ◌∙◌}
use native.Mathlib.Omega.{arith}
use borrow.Author.Tests.{le-ltb}
use Rattle.voice.proofs.PanelLaws.{level-exact}
use Rattle.curves.proofs.PitchLaws.{gain-le}
use Rattle.voice.specs.declared.Stage.{Stage}
use Rattle.voice.specs.declared.Stage.TheVariants.{Delay, Attack, Hold, Decay, Sustain, Release}
use Rattle.voice.specs.declared.Voice.{Voice}
use Rattle.voice.proofs.LoudestLaws.{level-le}
use Rattle.voice.specs.Panel.{stage_shown, levels_of, shown, shown_number}
use Rattle.voice.specs.Stages.{envelope}
use Rattle.promises.specs.Panel.{Tells, PanelIsExact}
use Rattle.promises.specs.Calls.{voice_in}
use Rattle.state.specs.declared.Engine.{Engine}
use Rattle.state.specs.Slots.{slot_at}
use Rattle.state.specs.Board.{ask}
use Rattle.voice.specs.declared.Shown.TheVariants as is

-- a slot within the board is told what it shows
asked : (i : ℕ) (e : Engine) → i < 32 → ask i e ≡ shown (slot_at e i)
unfolding ask
asked i e h = ap (λ (b : Bool). cond b is.Refused (shown (slot_at e i))) (le-ltb 31 i (omega arith))

-- each stage
stage-told : (i : ℕ) (e : Engine) (v : Voice) (s : Stage) → ask i e ≡ stage_shown v s → Tells i e v s
stage-told i e v (Delay left) q = record { names = q; number = ap shown_number q; values = ap levels_of q }
stage-told i e v (Attack t) q = record { level = _; exact = level-exact _ (level-le v.attack t); names = q; number = ap shown_number q; values = ap levels_of q }
stage-told i e v (Hold t) q = record { names = q; number = ap shown_number q; values = ap levels_of q }
stage-told i e v (Decay t) q = record { level = _; exact = level-exact _ (gain-le (envelope v (Decay t))); names = q; number = ap shown_number q; values = ap levels_of q }
stage-told i e v Sustain q = record { level = _; exact = level-exact _ (gain-le (envelope v Sustain)); names = q; number = ap shown_number q; values = ap levels_of q }
stage-told i e v (Release a t) q =
    record { level = _; exact = level-exact _ (gain-le (envelope v (Release a t))); names = q; number = ap shown_number q; values = ap levels_of q }

-- the slot that is asked for, sounding or free
pub panel-exact : PanelIsExact
unfolding shown
panel-exact i e h =
    let v = voice_in i e in
    let at : (b : Bool) → (slot_at e i).sounding ≡ b → ask i e ≡ cond b (stage_shown v v.stage) is.Free =
    λ b q. asked i e h ∙ ap (λ (b : Bool). cond b (stage_shown v v.stage) is.Free) q in (
      λ on. stage-told i e v v.stage (at true on),
      λ off. let q = at false off in record { names = q; number = ap shown_number q; values = ap levels_of q },
      refl,
    )
