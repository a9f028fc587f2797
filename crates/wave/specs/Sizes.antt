-- 02, M-107: what a file's heading says, read back from its bytes.
use Rattle.std.specs.Prelude.{List, [], ◌∷◌, ◌≡◌, ℕ, ◌+◌, ◌*◌, ◌/◌, ◌<◌, ◌≤◌, Float, length, take, drop}
use Rattle.arith.specs.Bytes.{u16_at, u32_at}
use Rattle.wave.specs.Headings.{most_frames, heading_of}
use Rattle.wave.specs.Recording.{write_number}
use Rattle.wave.specs.Returned.{file_in}

-- the most frames are the most that 32 bits can say
abbrev pub LargestCount : Type 0
LargestCount = (36 + 4 * most_frames < 4294967296) × (4294967296 ≤ 36 + 4 * (most_frames + 1))

-- the heading at the beginning of a file, each number read where it stands: the names RIFF, WAVE, fmt and data; the two sizes, of the bytes behind each; between them 16 bytes,
-- format 1, 2 channels, 44,100 frames and 176,400 bytes a second, blocks of 4 bytes, 16 bits
pub record Fields (file : List ℕ) (frames : ℕ) : Type 0 where
  pub riff : take 4 file ≡ 82 ∷ 73 ∷ 70 ∷ 70 ∷ []
  pub riff-size : u32_at file 4 ≡ 36 + 4 * frames
  pub wave : take 4 (drop 8 file) ≡ 87 ∷ 65 ∷ 86 ∷ 69 ∷ []
  pub fmt : take 4 (drop 12 file) ≡ 102 ∷ 109 ∷ 116 ∷ 32 ∷ []
  pub fmt-size : u32_at file 16 ≡ 16
  pub format : u16_at file 20 ≡ 1
  pub channels : u16_at file 22 ≡ 2
  pub rate : u32_at file 24 ≡ 44100
  pub speed : u32_at file 28 ≡ 176400
  pub block : u16_at file 32 ≡ 4
  pub bits : u16_at file 34 ≡ 16
  pub data-name : take 4 (drop 36 file) ≡ 100 ∷ 97 ∷ 116 ∷ 97 ∷ []
  pub data-size : u32_at file 40 ≡ 4 * frames

-- so they are read back from a heading of 44 bytes, for as many frames as there may be
abbrev pub HeadingReadsBack : Type 0
HeadingReadsBack = (frames : ℕ) → frames ≤ most_frames → (length (heading_of frames) ≡ 44) × Fields (heading_of frames) frames

-- and from a file that was written
abbrev pub FileReadsBack : Type 0
FileReadsBack = (xs : List Float) (out : List ℕ) → write_number xs (length out) ≡ 0 → Fields (file_in xs out) (length xs / 2)

-- in a file that was written the two sizes are those of the file: 8 bytes and 44 bytes stand in front of what they count
abbrev pub SizesAreTrue : Type 0
SizesAreTrue =
    (xs : List Float) (out : List ℕ) → write_number xs (length out) ≡ 0
    → (length (file_in xs out) ≡ 8 + u32_at (file_in xs out) 4) × (length (file_in xs out) ≡ 44 + u32_at (file_in xs out) 40)
