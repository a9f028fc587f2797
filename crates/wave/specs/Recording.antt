-- 02, M-107: the file of a run of output numbers, and its writer.
use Rattle.std.specs.Prelude.{cond, List, ◌++◌, ℕ, ◌+◌, ◌*◌, ◌/◌, eqb, ltb, Float, length, drop}
use Rattle.wave.specs.Headings.{heading_of, most_frames}
use Rattle.wave.specs.Pours.{is_broken, poured_of}

-- the file: the heading for its frames, of two numbers each, and the bytes of the numbers
unfoldable pub recording_of : List Float → List ℕ
recording_of xs = heading_of (length xs / 2) ++ poured_of xs

-- the tests, in order: 13, 14, 15 (`room` is the output's length)
unfoldable pub write_number : List Float → ℕ → ℕ
write_number xs room =
    cond (is_broken xs) 13
    (cond (ltb most_frames (length xs / 2)) 14
    (cond (ltb room (44 + 2 * length xs)) 15 0))

-- all of the lent output: done, the file stands at its beginning and the rest is as it was; refused, nothing is written
unfoldable pub recorded : List Float → List ℕ → List ℕ
recorded xs out =
    cond (eqb (write_number xs (length out)) 0) (recording_of xs ++ drop (44 + 2 * length xs) out) out
