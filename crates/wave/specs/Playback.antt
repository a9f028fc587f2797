-- 02, M-107: the reader of such files.
use Rattle.std.specs.Prelude.{Bool, true, false, cond, ◌&&◌, List, [], ◌∷◌, ◌++◌, ℕ, ◌+◌, ◌-◌, ◌*◌, ◌/◌, eqb, leb, ltb, ℤ, length, take, drop}
use Rattle.std.specs.Int.{w16}
use Rattle.std.proofs.Common.{to_z}
use Rattle.wave.specs.Answers.{Heard}
use Rattle.wave.specs.Headings.{heading_of, most_frames}

-- two runs of bytes are the same
unfoldable pub same_bytes : List ℕ → List ℕ → Bool
same_bytes [] [] = true
same_bytes [] (y ∷ ys) = false
same_bytes (x ∷ xs) [] = false
same_bytes (x ∷ xs) (y ∷ ys) = eqb x y && same_bytes xs ys

-- the frames that a file of this length would have
abbrev pub frames_in : List ℕ → ℕ
frames_in file = (length file - 44) / 4

-- such a file: a heading, and as many bytes behind it as it says
unfoldable pub is_recording : List ℕ → Bool
is_recording file =
    eqb (length file) (44 + 4 * frames_in file) && leb (frames_in file) most_frames
    && same_bytes (take 44 file) (heading_of (frames_in file))

-- the 16-bit numbers of bytes, two for each, the low byte first
unfoldable pub pcms_in : List ℕ → List ℤ
pcms_in [] = []
pcms_in (low ∷ []) = []
pcms_in (low ∷ high ∷ bytes) = to_z w16 (low + high * 256) ∷ pcms_in bytes

-- the tests, in order: 28, 15 (`room` is how many 16-bit numbers the output holds)
unfoldable pub read_number : List ℕ → ℕ → ℕ
read_number file room = cond (is_recording file) (cond (ltb room (2 * frames_in file)) 15 0) 28

-- the answer: done, the file's frames; refused, 0
unfoldable pub heard_of : List ℕ → ℕ → Heard
heard_of file room =
    record { number = read_number file room; frames = cond (eqb (read_number file room) 0) (frames_in file) 0 }

-- all of the lent output: done, its first two numbers a frame are written and no other; refused, none
unfoldable pub replayed : List ℕ → List ℤ → List ℤ
replayed file out =
    cond (eqb (read_number file (length out)) 0) (pcms_in (drop 44 file) ++ drop (2 * frames_in file) out) out
