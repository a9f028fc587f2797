-- 02, M-107: the 44-byte heading of a PCM file. Numbers in it have their low byte first.
use Rattle.std.specs.Prelude.{cond, List, [], ◌∷◌, ◌++◌, ℕ, ◌+◌, ◌*◌, ◌/◌, ◌%◌, eqb, ltb, length, drop}

-- a number in two bytes
abbrev pub in_two : ℕ → List ℕ
in_two n = (n % 256) ∷ (n / 256 % 256) ∷ []

-- a number in four bytes
abbrev pub in_four : ℕ → List ℕ
in_four n = (n % 256) ∷ (n / 256 % 256) ∷ (n / 65536 % 256) ∷ (n / 16777216 % 256) ∷ []

-- as many frames as the heading's 32-bit numbers can say
abbrev pub most_frames : ℕ
most_frames = 1073741814

-- the heading for so many frames: "RIFF", the bytes behind this number, "WAVE"; "fmt ", its 16 bytes, format 1, 2 channels,
-- 44,100 frames and 176,400 bytes a second, 4 bytes a frame, 16 bits a number; "data", the bytes behind this number
unfoldable pub heading_of : ℕ → List ℕ
heading_of frames =
    (82 ∷ 73 ∷ 70 ∷ 70 ∷ []) ++ in_four (36 + 4 * frames) ++ (87 ∷ 65 ∷ 86 ∷ 69 ∷ [])
    ++ (102 ∷ 109 ∷ 116 ∷ 32 ∷ []) ++ in_four 16 ++ in_two 1 ++ in_two 2
    ++ in_four 44100 ++ in_four 176400 ++ in_two 4 ++ in_two 16
    ++ (100 ∷ 97 ∷ 116 ∷ 97 ∷ []) ++ in_four (4 * frames)

-- the tests, in order: 14, 15 (`room` is the output's length)
unfoldable pub heading_number : ℕ → ℕ → ℕ
heading_number frames room = cond (ltb most_frames frames) 14 (cond (ltb room 44) 15 0)

-- all of the lent output: done, its first 44 bytes are written and no other; refused, none
unfoldable pub headed : ℕ → List ℕ → List ℕ
headed frames out = cond (eqb (heading_number frames (length out)) 0) (heading_of frames ++ drop 44 out) out
