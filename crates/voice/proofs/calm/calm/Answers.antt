-- Each stage by its law.
use mathlib.Core.Path.{◌≡◌, refl, sym, subst}
use Prim.Native.Nat.{ℕ}
use native.Mathlib.Omega.{arith}
use Rattle.voice.specs.declared.Stage.{Stage}
use Rattle.voice.specs.declared.Voice.{Voice}
use Rattle.voice.specs.Internal.Calm.{Calms}
use Rattle.voice.specs.Internal.Stages.{RoomBy}
use Rattle.voice.proofs.CalmLaws.{none-calm, hold-calm, sustain-calm, decay-calm, release-calm}
use Rattle.voice.proofs.calm.calm.Goals as goal

-- what is shown of the stage that the match found is shown of s
seen : {v : Voice} {m : ℕ} (s g : Stage) → s ≡ g → Calms v g m × RoomBy m g → Calms v s m × RoomBy m s
seen {v} {m} s g e h = subst (λ (x : Stage). Calms v x m × RoomBy m x) (sym e) h

pub returns-in-Delay : goal.returns-in-Delay
returns-in-Delay c = seen _ _ c.in-Delay.is (none-calm _ _ 0 refl, tt)

pub returns-in-Attack : goal.returns-in-Attack
returns-in-Attack c = seen _ _ c.in-Attack.is (none-calm _ _ _ c.calm_attack.ensures.0, c.calm_attack.ensures.1)

pub returns-in-Decay : goal.returns-in-Decay
returns-in-Decay c = seen _ _ c.in-Decay.is (decay-calm _ _ _ c.calm_decay.ensures.2 c.calm_decay.ensures.0, c.calm_decay.ensures.1)

pub returns-in-Sustain : goal.returns-in-Sustain
returns-in-Sustain c = seen _ _ c.in-Sustain.is (sustain-calm _ 4294967295, tt)

pub returns-in-Release : goal.returns-in-Release
returns-in-Release c = seen _ _ c.in-Release.is (release-calm _ _ _ _ c.calm_count.ensures.0, c.calm_count.ensures.1)

pub returns-in-Hold : goal.returns-in-Hold
returns-in-Hold c = let e = c.saturating_sub.ensures in
    seen _ _ c.in-Hold.is (hold-calm _ _ _ (λ z. omega arith), omega arith)
