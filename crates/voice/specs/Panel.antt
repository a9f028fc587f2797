-- 01, "A voice, frame by frame", last paragraph: what the panel is told of a slot.
use Rattle.std.specs.Prelude.{false, cond, ℕ, Float, List, [], ◌∷◌}
use Rattle.std.specs.Float.{binary32}
use Rattle.std.specs.Float.Ieee.{round}
use Rattle.curves.specs.Levels.{gain_of}
use Rattle.voice.specs.declared.Shown.{Shown}
use Rattle.voice.specs.declared.Stage.{Stage}
use Rattle.voice.specs.declared.Stage.TheVariants.{Delay, Attack, Hold, Decay, Sustain, Release}
use Rattle.voice.specs.declared.Voice.{Voice}
use Rattle.voice.specs.Stages.{level_at, envelope}
use Rattle.voice.specs.declared.Slot.{Slot}
use Rattle.voice.specs.declared.Shown.TheVariants as is

-- the f32 nearest to n / 2 ^ 24 (law `level-exact`)
unfoldable pub level_of : ℕ → Float
level_of n = round binary32 false n 16777216

-- a stage, with its level or its envelope's gain over 2^24 (`level_of n` is n / 2^24, exact)
abbrev pub stage_shown : Voice → Stage → Shown
stage_shown v (Delay left) = is.Delay
stage_shown v (Attack t) = is.Attack (level_of (level_at v.attack t))
stage_shown v (Hold t) = is.Hold
stage_shown v (Decay t) = is.Decay (level_of (gain_of (envelope v (Decay t))))
stage_shown v Sustain = is.Sustain (level_of (gain_of (envelope v Sustain)))
stage_shown v (Release a t) = is.Release (level_of (gain_of (envelope v (Release a t))))

-- a slot
unfoldable pub shown : Slot → Shown
shown s = cond s.sounding (stage_shown s.voice s.voice.stage) is.Free

-- 01's number for each answer
abbrev pub shown_number : Shown → ℕ
shown_number is.Refused = 2
shown_number is.Free = 0
shown_number is.Delay = 0
shown_number (is.Attack x) = 0
shown_number is.Hold = 0
shown_number (is.Decay x) = 0
shown_number (is.Sustain x) = 0
shown_number (is.Release x) = 0

-- 01's values for each answer: the level, where the stage has one
abbrev pub levels_of : Shown → List Float
levels_of is.Refused = []
levels_of is.Free = []
levels_of is.Delay = []
levels_of (is.Attack x) = x ∷ []
levels_of is.Hold = []
levels_of (is.Decay x) = x ∷ []
levels_of (is.Sustain x) = x ∷ []
levels_of (is.Release x) = x ∷ []
