-- The sums of voices of a render themselves, before they are held and made floats.
use Rattle.std.specs.Prelude.{◌≡◌, ℕ, zero, suc, ◌*◌, cond, List, [], ◌∷◌, ◌++◌, map, length, drop, ℤ, ◌==◌}
use Rattle.state.specs.declared.Engine.{Engine}
use Rattle.engine.specs.Mixer.{mixed}
use Rattle.engine.specs.Rendering.{distance, left_sum, right_sum, output, render_number}

-- the sums of the first n frames, left and right alternating
unfoldable pub sums_of : List ℤ → List ℤ → Engine → ℕ → List ℤ
sums_of ram rom e zero = []
sums_of ram rom e (suc n) = sums_of ram rom e n ++ (left_sum ram rom e n ∷ right_sum ram rom e n ∷ [])

-- all of the lent output: done, its first 2n numbers are the sums and no other is written; refused, none
unfoldable pub summed : ℕ → List ℤ → List ℤ → List ℤ → Engine → List ℤ
summed to ram rom out e =
    cond (render_number to ram rom (length out) e == 0)
    (sums_of ram rom e (distance e to) ++ drop (2 * distance e to) out) out

-- each sum, held and times 2^-23, is the number that a render writes in its place
abbrev pub MixedIsOutput : Type 0
MixedIsOutput = (ram rom : List ℤ) (e : Engine) (n : ℕ) → map mixed (sums_of ram rom e n) ≡ output ram rom e n
