-- 02, M-107: a heading and pours, one behind the other, are the file that the writer makes of all numbers at once.
use Rattle.std.specs.Prelude.{List, [], ◌∷◌, ◌++◌, ◌≡◌, ℕ, ◌+◌, ◌*◌, ◌%◌, ◌≤◌, Float, length, take}
use Rattle.wave.specs.Headings.{heading_number, headed}
use Rattle.wave.specs.Pours.{pour_number, poured_into}
use Rattle.wave.specs.Recording.{write_number}
use Rattle.wave.specs.Returned.{file_in}

-- numbers, and the output that they are poured into
pub record Share : Type 0 where
  pub numbers : List Float
  pub out : List ℕ

-- the numbers of all shares, in order
abbrev pub all_numbers : List Share → List Float
all_numbers [] = []
all_numbers (s ∷ ss) = s.numbers ++ all_numbers ss

-- the bytes that their pours write, in order
abbrev pub poured_bytes : List Share → List ℕ
poured_bytes [] = []
poured_bytes (s ∷ ss) = take (2 * length s.numbers) (poured_into s.numbers s.out) ++ poured_bytes ss

-- each pour is done
abbrev pub AllPoured : List Share → Type 0
AllPoured [] = Unit {0}
AllPoured (s ∷ ss) = (pour_number s.numbers (length s.out) ≡ 0) × AllPoured ss

-- each share has an even count of numbers and room for its bytes
abbrev pub AllRoomy : List Share → Type 0
AllRoomy [] = Unit {0}
AllRoomy (s ∷ ss) = ((length s.numbers % 2 ≡ 0) × (2 * length s.numbers ≤ length s.out)) × AllRoomy ss

-- where the heading and all pours are done, and the heading is for their frames, the writer is done too, given room, and its file is the heading's bytes and those of the pours
abbrev pub StreamIsFile : Type 0
StreamIsFile =
    (frames : ℕ) (head out : List ℕ) (ss : List Share) → heading_number frames (length head) ≡ 0 → AllPoured ss
    → 2 * frames ≡ length (all_numbers ss) → 44 + 2 * length (all_numbers ss) ≤ length out
    → (write_number (all_numbers ss) (length out) ≡ 0) × (file_in (all_numbers ss) out ≡ take 44 (headed frames head) ++ poured_bytes ss)

-- and where the writer is done, so are the heading, given room, and all pours of even shares that have room
abbrev pub FileIsStream : Type 0
FileIsStream =
    (frames : ℕ) (head out : List ℕ) (ss : List Share) → write_number (all_numbers ss) (length out) ≡ 0
    → 2 * frames ≡ length (all_numbers ss) → 44 ≤ length head → AllRoomy ss
    → (heading_number frames (length head) ≡ 0) × AllPoured ss
