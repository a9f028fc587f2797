-- 02, M-107: reading what was written returns it, and writing what was read gives the same bytes.
use Rattle.std.specs.Prelude.{List, ◌++◌, map, ◌≡◌, ℕ, ◌+◌, ◌*◌, ◌/◌, ◌<◌, ◌≤◌, Float, ℤ, length, take, drop, get_or}
use Rattle.arith.specs.Bytes.{AllBytes, i16_at}
use Rattle.wave.specs.Fractions.{OutputAt, FloorHeld}
use Rattle.wave.specs.Pcm.{pcm_of, number_of}
use Rattle.wave.specs.Playback.{read_number, heard_of, replayed}
use Rattle.wave.specs.Recording.{write_number, recorded}

-- the file that stands at the beginning of an output after the writer
abbrev pub file_in : List Float → List ℕ → List ℕ
file_in xs out = take (44 + 2 * length xs) (recorded xs out)

-- the numbers that stand at the beginning of an output after the reader: two for each of the frames that it answers
abbrev pub numbers_in : List ℕ → List ℤ → List ℤ
numbers_in file out = take (2 * (heard_of file (length out)).frames) (replayed file out)

-- what the writer writes are bytes
abbrev pub FileIsBytes : Type 0
FileIsBytes = (xs : List Float) (out : List ℕ) → write_number xs (length out) ≡ 0 → AllBytes (file_in xs out)

-- number i of the file, two bytes behind its 44, low byte first and in two's complement: floor(k/256), at most 32,767, for the output number k/2^23 at place i
abbrev pub FileHoldsFloors : Type 0
FileHoldsFloors =
    (xs : List Float) (out : List ℕ) (i : ℕ) (past : Float) (k : ℤ) → write_number xs (length out) ≡ 0 → i < length xs
    → OutputAt (get_or xs i past) k → FloorHeld k (i16_at (file_in xs out) (44 + 2 * i))

-- the reader takes what was written, where it has room, and answers its frames; its numbers are those of the 16-bit rule, each in its place, and the rest of the output is as
-- it was
abbrev pub ReadIsWritten : Type 0
ReadIsWritten =
    (xs : List Float) (out : List ℕ) (room : List ℤ) → write_number xs (length out) ≡ 0 → length xs ≤ length room
    → (heard_of (file_in xs out) (length room) ≡ record { number = 0; frames = length xs / 2 })
    × (replayed (file_in xs out) room ≡ map pcm_of xs ++ drop (length xs) room)

-- of every file that the reader takes, number i of its output is number i of the file
abbrev pub ReadsEach : Type 0
ReadsEach =
    (file : List ℕ) (out : List ℤ) (i : ℕ) (past : ℤ) → read_number file (length out) ≡ 0 → i < 2 * (heard_of file (length out)).frames
    → get_or (replayed file out) i past ≡ i16_at file (44 + 2 * i)

-- every file that the reader takes: its numbers as floats, written with room, give that very file
abbrev pub WrittenIsRead : Type 0
WrittenIsRead =
    (file out : List ℕ) (room : List ℤ) → AllBytes file → read_number file (length room) ≡ 0 → length file ≤ length out
    → (write_number (map number_of (numbers_in file room)) (length out) ≡ 0)
    × (recorded (map number_of (numbers_in file room)) out ≡ file ++ drop (length file) out)

-- so what is written, read and written again has not changed by a byte
abbrev pub WrittenAgain : Type 0
WrittenAgain =
    (xs : List Float) (out : List ℕ) (room : List ℤ) → write_number xs (length out) ≡ 0 → length xs ≤ length room
    → file_in (map number_of (numbers_in (file_in xs out) room)) out ≡ file_in xs out
