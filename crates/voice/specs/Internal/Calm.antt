-- Frames in which the gain stays, and which differ in their place and their count alone.
use Rattle.std.specs.Prelude.{◌≡◌, false, ℤ, ℕ, ◌<◌, ◌+◌, ◌*◌, ◌/◌}
use Rattle.voice.specs.declared.Stage.{Stage}
use Rattle.voice.specs.declared.Voice.{Voice}
use Rattle.voice.specs.Stages.{envelope, entered, dead, waiting, released, spent_by}
use Rattle.voice.specs.Sound.{shaped}

-- h is no delay and no attack, is not spent, and has the envelope of g
pub record Calm (v : Voice) (g h : Stage) : Type 0 where
  pub enters : entered v h ≡ h
  pub waits : waiting h ≡ false
  pub dies : dead v h ≡ dead v g
  pub frees : released h ≡ released g
  pub cb : envelope v h ≡ envelope v g
  pub full : (u : ℤ) → shaped v h u ≡ u

-- the next m frames are calm
abbrev pub Calms : Voice → Stage → ℕ → Type 0
Calms v g m = (j : ℕ) → j < m → Calm v g (spent_by j g)

-- for m frames floor(1,000 * t / n) stays
abbrev pub Steady : ℕ → ℕ → ℕ → Type 0
Steady n t m = (j : ℕ) → j < m → 1000 * (t + j) / n ≡ 1000 * t / n
