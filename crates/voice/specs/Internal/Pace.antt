-- What grows in a stage, frame by frame, as one quotient: the attack's level, a hold's frames, the cB of decay and release.
use Rattle.std.specs.Prelude.{ℕ, ◌+◌, ◌*◌, ◌/◌, ◌-◌, ◌<◌, min, ◌≡◌, cond, eqb}
use Rattle.voice.specs.declared.Stage.{Stage}
use Rattle.voice.specs.declared.Stage.TheVariants.{Delay, Attack, Hold, Decay, Sustain, Release}
use Rattle.voice.specs.declared.Voice.{Voice}
use Rattle.voice.specs.declared.pace.Pace.{Pace}

-- what it grows to over the stage's frames
abbrev pub whole_in : Stage → ℕ
whole_in (Delay left) = 0
whole_in (Attack t) = 16777216
whole_in (Hold t) = 1
whole_in (Decay t) = 1000
whole_in Sustain = 0
whole_in (Release a t) = 1000

-- n, at least 1
unfoldable pub some : ℕ → ℕ
some n = cond (eqb n 0) 1 n

-- those frames
abbrev pub frames_in : Voice → Stage → ℕ
frames_in v (Delay left) = 1
frames_in v (Attack t) = some v.attack
frames_in v (Hold t) = 1
frames_in v (Decay t) = some v.decay
frames_in v Sustain = 1
frames_in v (Release a t) = some v.release

-- the frames spent
abbrev pub spent_in : Stage → ℕ
spent_in (Delay left) = 0
spent_in (Attack t) = t
spent_in (Hold t) = t
spent_in (Decay t) = t
spent_in Sustain = 0
spent_in (Release a t) = t

-- the value
abbrev pub value_in : Voice → Stage → ℕ
value_in v s = whole_in s * spent_in s / frames_in v s

-- x, or 0 for a stage of no frames
unfoldable pub stop_if : ℕ → ℕ → ℕ
stop_if n x = cond (eqb n 0) 0 x

-- from this value on the stage is spent, or the voice has died away
abbrev pub stop_in : Voice → Stage → ℕ
stop_in v (Delay left) = 0
stop_in v (Attack t) = stop_if v.attack 16777216
stop_in v (Hold t) = v.hold
stop_in v (Decay t) = stop_if v.decay (min v.sustain 1000)
stop_in v Sustain = 1000 - v.sustain
stop_in v (Release a t) = stop_if v.release (1000 - a)

-- the level at a value
abbrev pub level_in : Stage → ℕ → ℕ
level_in (Delay left) x = 16777216
level_in (Attack t) x = x
level_in (Hold t) x = 16777216
level_in (Decay t) x = 16777216
level_in Sustain x = 16777216
level_in (Release a t) x = 16777216

-- the envelope's cB at a value
abbrev pub cb_in : Voice → Stage → ℕ → ℕ
cb_in v (Delay left) x = 0
cb_in v (Attack t) x = 0
cb_in v (Hold t) x = 0
cb_in v (Decay t) x = x
cb_in v Sustain x = v.sustain
cb_in v (Release a t) x = a + x

-- the code's record: sum over n frames as a quotient, and what a frame adds to it, whole over n
pub record Paced (whole n sum : ℕ) (c : Pace) : Type 0 where
  pub frames : c.frames ≡ n
  pub size : (0 < c.frames) × (c.frames < 4294967296)
  pub value : c.value * c.frames + c.over ≡ sum
  pub over : c.over < c.frames
  pub by : c.by * c.frames + c.more ≡ whole
  pub more : c.more < c.frames

-- the record at a stage
abbrev pub PaceAt : Voice → Stage → Pace → Type 0
PaceAt v s c = Paced (whole_in s) (frames_in v s) (whole_in s * spent_in s) c
