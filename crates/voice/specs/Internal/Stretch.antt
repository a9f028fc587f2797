-- How a run goes on in stretches of calm frames.
use Rattle.std.specs.Prelude.{ℕ, ◌+◌, ◌*◌, ◌/◌, ◌<◌, ◌%◌, zero, suc, cond, List, [], ◌∷◌, ◌++◌, ℤ, pos, ◌*ℤ◌, length}
use Rattle.voice.specs.declared.Stage.{Stage}
use Rattle.voice.specs.declared.Voice.{Voice}
use Rattle.voice.specs.Motion.{folds, span}
use Rattle.arith.specs.Floors.{floor_z}
use Rattle.voice.specs.Reading.{sample, before, interpolated}
use Rattle.voice.specs.Internal.Sides.{part}

-- where the loop ends, or the window if it does not fold
abbrev pub top : Voice → Stage → ℕ
top v g = cond (folds v g) v.loopto (span v)

-- at place p its four samples stand side by side in the window, before that end, and a step leads to neither fold nor end
pub record Clear (w : List ℤ) (v : Voice) (g : Stage) (st p : ℕ) : Type 0 where
  pub inside : p / 16777216 + 2 < length w
  pub before : p / 16777216 + 2 < top v g
  pub short : p + st < top v g * 16777216

-- the reading between sample i and the next
abbrev pub between : List ℤ → ℕ → ℕ → ℤ
between w i q = interpolated (before w i) (sample w i) (sample w (i + 1)) (sample w (i + 2)) q

-- the reading at p, at a gain
unfoldable pub plain : ℕ → List ℤ → ℕ → ℤ
plain gain w p = floor_z (between w (p / 16777216) (p % 16777216 / 4096) *ℤ pos gain) 65536

-- shares of m such frames from place p on, left and right alternating
unfoldable pub plains : ℕ → ℕ → ℕ → List ℤ → ℕ → ℕ → ℕ → List ℤ
plains gain left right w st p zero = []
plains gain left right w st p (suc m) =
    plains gain left right w st p m ++ (part (plain gain w (p + m * st)) left ∷ part (plain gain w (p + m * st)) right ∷ [])
