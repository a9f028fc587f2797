-- How a run goes on in rounds: frames of one stage, each with its value and its place.
use Rattle.std.specs.Prelude.{ℕ, zero, suc, List, [], ◌∷◌, ◌++◌, ℤ, pos, ◌*ℤ◌}
use Rattle.arith.specs.Floors.{floor_z}
use Rattle.curves.specs.Levels.{gain_of}
use Rattle.voice.specs.declared.Stage.{Stage}
use Rattle.voice.specs.declared.Voice.{Voice}
use Rattle.voice.specs.declared.way.Way.{Way}
use Rattle.voice.specs.Motion.{folds}
use Rattle.voice.specs.Reading.{reading}
use Rattle.voice.specs.Sound.{whole_loss}
use Rattle.voice.specs.Stages.{spent_by}
use Rattle.voice.specs.Internal.Pace.{value_in, level_in, cb_in}
use Rattle.voice.specs.Internal.Sides.{part}
use Rattle.voice.specs.Internal.Way.{place_on}

-- the reading at place p at a gain, and at the level of value x
unfoldable pub rung : ℕ → List ℤ → Voice → Stage → ℕ → ℕ → ℤ
rung gain w v s p x =
    floor_z (floor_z (reading (folds v s) v.loopfrom v.loopto w p *ℤ pos gain) 65536 *ℤ pos (level_in s x)) 16777216

-- u of frame j
abbrev pub rung_in : ℤ → List ℤ → Voice → Stage → Way → ℕ → ℤ
rung_in l w v s y j =
    rung (gain_of (whole_loss l (cb_in v s (value_in v (spent_by j s))))) w v s (place_on y v.place j) (value_in v (spent_by j s))

-- shares of m such frames, left and right alternating
unfoldable pub rings : ℤ → ℕ → ℕ → List ℤ → Voice → Stage → Way → ℕ → List ℤ
rings l left right w v s y zero = []
rings l left right w v s y (suc m) =
    rings l left right w v s y m ++ (part (rung_in l w v s y m) left ∷ part (rung_in l w v s y m) right ∷ [])
