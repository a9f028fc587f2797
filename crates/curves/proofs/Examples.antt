-- 01, "Examples to hold against the rules": those marked P, as one table that one statement proves.
use Prim.Native.Nat.{ℕ}
use lib.IntN.{ℤ, pos, negsuc}
use mathlib.Core.List.{List, [], ◌∷◌, map}
use mathlib.Core.Path.{◌≡◌, refl}
use Rattle.curves.specs.Levels.{gain_of, cb_of}
use Rattle.curves.specs.Times.{frames, frames_up}
use Rattle.curves.specs.Internal.Pitch.{step_at}
use Rattle.curves.specs.Pitch.{step_of}

-- a row: what is asked, and what it gives
pub data Row : Type 0 where
  step : ℤ → ℕ → ℕ → Row  -- cents, rate
  time : ℤ → ℕ → Row  -- timecents, with either upper hold
  gain : ℕ → ℕ → Row  -- cB
  velocity : ℕ → ℕ → Row

-- the examples, in 01's order
abbrev pub table : List Row
table =
    step (pos 0) 44100 16777216 ∷
    step (pos 1200) 44100 33554432 ∷
    step (negsuc 9599) 44100 65536 ∷
    step (pos 4800) 44100 268435456 ∷
    step (pos 0) 50000 19021786 ∷
    step (negsuc 9599) 400 594 ∷
    time (pos 0) 44100 ∷
    time (negsuc 11999) 43 ∷
    time (negsuc 32767) 0 ∷
    gain 0 16777216 ∷
    gain 200 1677721 ∷
    gain 1000 167 ∷
    velocity 111 23 ∷
    velocity 64 119 ∷
    velocity 1 841 ∷
    []

-- what the page says
abbrev pub said : Row → List ℕ
said (step c rate n) = n ∷ []
said (time t n) = n ∷ n ∷ []
said (gain a n) = n ∷ []
said (velocity v n) = n ∷ []

-- what the definitions say
abbrev pub found : Row → List ℕ
found (step c rate n) = step_at c rate ∷ []
found (time t n) = frames (pos 8000) t ∷ frames (pos 5000) t ∷ []
found (gain a n) = gain_of a ∷ []
found (velocity v n) = cb_of v ∷ []

pub examples : map found table ≡ map said table
unfolding step_at step_of frames frames_up gain_of cb_of
examples = refl
