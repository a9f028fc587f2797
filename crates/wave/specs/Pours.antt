-- 02, M-107: output numbers poured as bytes, two for each.
use Rattle.std.specs.Prelude.{Bool, cond, not, ◌||◌, List, [], ◌∷◌, ◌++◌, ℕ, ◌*◌, ◌%◌, eqb, ltb, Float, length, drop}
use Rattle.arith.specs.Floors.{mod_z}
use Rattle.arith.specs.Lists.{any_of}
use Rattle.wave.specs.Headings.{in_two}
use Rattle.wave.specs.Pcm.{is_output, pcm_of}

-- the two bytes of a number: its 16-bit number in two's complement
abbrev pub pcm_bytes : Float → List ℕ
pcm_bytes x = in_two (mod_z (pcm_of x) 65536)

-- the bytes of all of them, in order
unfoldable pub poured_of : List Float → List ℕ
poured_of [] = []
poured_of (x ∷ xs) = pcm_bytes x ++ poured_of xs

-- x is no output number
abbrev pub is_other : Float → Bool
is_other x = not (is_output x)

-- 13: an odd count of numbers, or one that is no output number
unfoldable pub is_broken : List Float → Bool
is_broken xs = eqb (length xs % 2) 1 || any_of is_other xs

-- the tests, in order: 13, 15 (`room` is the output's length)
unfoldable pub pour_number : List Float → ℕ → ℕ
pour_number xs room = cond (is_broken xs) 13 (cond (ltb room (2 * length xs)) 15 0)

-- all of the lent output: done, its first two bytes a number are written and no other; refused, none
unfoldable pub poured_into : List Float → List ℕ → List ℕ
poured_into xs out = cond (eqb (pour_number xs (length out)) 0) (poured_of xs ++ drop (2 * length xs) out) out
