-- 01, "From a key to layers" (pitch total), "Tables and steps" (step), "A voice, frame by frame" (fold, end).
use Rattle.std.specs.Prelude.{ℤ, ◌+ℤ◌, ℕ, ◌+◌, ◌-◌, ◌%◌, ◌*◌, Bool, not, ◌&&◌, ◌||◌, cond, eqb, ltb, leb}
use Rattle.curves.specs.Pitch.{bend_cents, pitch_held, step_of, lifted}
use Rattle.voice.specs.declared.Voice.{Voice}
use Rattle.voice.specs.declared.Channel.{Channel}
use Rattle.voice.specs.declared.Stage.{Stage}
use Rattle.voice.specs.Stages.{released}

-- the pitch total, held to -9,600..4,800
unfoldable pub pitch_total : Channel → Voice → ℤ
pitch_total c v = pitch_held (v.pitch +ℤ bend_cents c.bend)

-- the voice's step, in 2^-24 samples
unfoldable pub step : Channel → Voice → ℕ
step c v = step_of (lifted (pitch_total c v)) v.rate

-- modes 1 and 3 (3 until release) fold; a loop of no length does not
unfoldable pub folds : Voice → Stage → Bool
folds v s = ltb v.loopfrom v.loopto && (eqb v.mode 1 || eqb v.mode 3 && not (released s))

-- a place at or past the loop end b goes back by whole loop lengths
unfoldable pub fold : ℕ → ℕ → ℕ → ℕ
fold a b p = cond (ltb p b) p (a + (p - a) % (b - a))

-- the place p, folded into the voice's loop
abbrev pub folded : Voice → ℕ → ℕ
folded v p = fold (v.loopfrom * 16777216) (v.loopto * 16777216) p

-- the window's length
abbrev pub span : Voice → ℕ
span v = v.end - v.start

-- where a voice that has moved to p stands
unfoldable pub settled : Voice → Stage → ℕ → ℕ
settled v s p = cond (folds v s) (folded v p) p

-- it does not fold, and p is at or past the end
unfoldable pub ended : Voice → Stage → ℕ → Bool
ended v s p = not (folds v s) && leb (span v * 16777216) p
