-- 02, M-107: each number of the four calls and its case, with no order of tests; and what a call leaves as it was.
use Rattle.std.specs.Prelude.{List, ◌∷◌, ◌++◌, ◌⊎◌, ◌≡◌, ℕ, ◌+◌, ◌*◌, ◌/◌, ◌%◌, ◌<◌, ◌≤◌, Float, ℤ, length, drop}
use Rattle.wave.specs.Fractions.{AnOutput}
use Rattle.wave.specs.Headings.{heading_of, most_frames, heading_number, headed}
use Rattle.wave.specs.Playback.{read_number, heard_of, replayed}
use Rattle.wave.specs.Pours.{pour_number, poured_into}
use Rattle.wave.specs.Recording.{write_number, recorded}

-- a number is given exactly in a case
abbrev pub GivenIn : ℕ → ℕ → Type 0 → Type 0
GivenIn number n case = (number ≡ n → case) × (case → number ≡ n)

-- ---- 13: what is no run of output numbers

-- one of them is no output number
pub data HasOther : List Float → Type 0 where
  here : {x : Float} {xs : List Float} → (AnOutput x → ⊥) → HasOther (x ∷ xs)
  later : {x : Float} {xs : List Float} → HasOther xs → HasOther (x ∷ xs)

-- an odd count, or one that is no output number
abbrev pub Unfit : List Float → Type 0
Unfit xs = (length xs % 2 ≡ 1) ⊎ HasOther xs

-- ---- the writer and its halves

-- each number of the writer and its case; it is done in the case that is left
pub record WriteNumbers (xs : List Float) (room : ℕ) : Type 0 where
  pub thirteen : GivenIn (write_number xs room) 13 (Unfit xs)
  pub fourteen : GivenIn (write_number xs room) 14 ((Unfit xs → ⊥) × (most_frames < length xs / 2))
  pub fifteen :
      GivenIn (write_number xs room) 15
      ((Unfit xs → ⊥) × (length xs / 2 ≤ most_frames) × (room < 44 + 4 * (length xs / 2)))
  pub done :
      GivenIn (write_number xs room) 0
      ((Unfit xs → ⊥) × (length xs / 2 ≤ most_frames) × (44 + 4 * (length xs / 2) ≤ room))
  pub no_other :
      (write_number xs room ≡ 0) ⊎ (write_number xs room ≡ 13) ⊎ (write_number xs room ≡ 14) ⊎ (write_number xs room ≡ 15)

-- of every run of numbers and every output
abbrev pub WriterNumbers : Type 0
WriterNumbers = (xs : List Float) (room : ℕ) → WriteNumbers xs room

-- each number of the heading and its case
pub record HeadNumbers (frames room : ℕ) : Type 0 where
  pub fourteen : GivenIn (heading_number frames room) 14 (most_frames < frames)
  pub fifteen : GivenIn (heading_number frames room) 15 ((frames ≤ most_frames) × (room < 44))
  pub done : GivenIn (heading_number frames room) 0 ((frames ≤ most_frames) × (44 ≤ room))
  pub no_other : (heading_number frames room ≡ 0) ⊎ (heading_number frames room ≡ 14) ⊎ (heading_number frames room ≡ 15)

-- of every count of frames and every output
abbrev pub HeadingNumbers : Type 0
HeadingNumbers = (frames room : ℕ) → HeadNumbers frames room

-- each number of a pour and its case
pub record PourNumbers (xs : List Float) (room : ℕ) : Type 0 where
  pub thirteen : GivenIn (pour_number xs room) 13 (Unfit xs)
  pub fifteen : GivenIn (pour_number xs room) 15 ((Unfit xs → ⊥) × (room < 4 * (length xs / 2)))
  pub done : GivenIn (pour_number xs room) 0 ((Unfit xs → ⊥) × (4 * (length xs / 2) ≤ room))
  pub no_other : (pour_number xs room ≡ 0) ⊎ (pour_number xs room ≡ 13) ⊎ (pour_number xs room ≡ 15)

-- of every run of numbers and every output
abbrev pub PouringNumbers : Type 0
PouringNumbers = (xs : List Float) (room : ℕ) → PourNumbers xs room

-- ---- the reader

-- a file of so many frames: a heading that says so, and four bytes for each behind it
pub record FileOf (file : List ℕ) (frames : ℕ) : Type 0 where
  pub few : frames ≤ most_frames
  pub body : List ℕ
  pub long : length body ≡ 4 * frames
  pub whole : file ≡ heading_of frames ++ body

-- each number of the reader and its case, and the frames where it is done
pub record ReadNumbers (file : List ℕ) (room : ℕ) : Type 0 where
  pub twenty-eight : GivenIn (read_number file room) 28 ((frames : ℕ) → FileOf file frames → ⊥)
  pub fifteen : GivenIn (read_number file room) 15 ((frames : ℕ) × (FileOf file frames × (room < 2 * frames)))
  pub done : GivenIn (read_number file room) 0 ((frames : ℕ) × (FileOf file frames × (2 * frames ≤ room)))
  pub frames : (frames : ℕ) → FileOf file frames → 2 * frames ≤ room → (heard_of file room).frames ≡ frames
  pub no_other : (read_number file room ≡ 0) ⊎ (read_number file room ≡ 15) ⊎ (read_number file room ≡ 28)

-- of any bytes and every output
abbrev pub ReaderNumbers : Type 0
ReaderNumbers = (file : List ℕ) (room : ℕ) → ReadNumbers file room

-- a file has one count of frames
abbrev pub OneCount : Type 0
OneCount = (file : List ℕ) (m n : ℕ) → FileOf file m → FileOf file n → m ≡ n

-- ---- what is left as it was

-- a refusal writes nothing, and a refused reader gives 0 frames
abbrev pub RefusedWritesNothing : Type 0
RefusedWritesNothing =
    ((frames : ℕ) (out : List ℕ) → (heading_number frames (length out) ≡ 0 → ⊥) → headed frames out ≡ out)
    × ((xs : List Float) (out : List ℕ) → (pour_number xs (length out) ≡ 0 → ⊥) → poured_into xs out ≡ out)
    × ((xs : List Float) (out : List ℕ) → (write_number xs (length out) ≡ 0 → ⊥) → recorded xs out ≡ out)
    × ((file : List ℕ) (out : List ℤ) → (read_number file (length out) ≡ 0 → ⊥)
    → (replayed file out ≡ out) × ((heard_of file (length out)).frames ≡ 0))

-- an output of the same length, of which all but the first `count` are as they were
abbrev pub KeptBehind : {A : Type 0} → ℕ → List A → List A → Type 0
KeptBehind count before now = (length now ≡ length before) × (drop count now ≡ drop count before)

-- where a call is done, all that lies behind what it writes is as it was
abbrev pub DoneKeepsTheRest : Type 0
DoneKeepsTheRest =
    ((frames : ℕ) (out : List ℕ) → heading_number frames (length out) ≡ 0 → KeptBehind 44 out (headed frames out))
    × ((xs : List Float) (out : List ℕ) → pour_number xs (length out) ≡ 0 → KeptBehind (2 * length xs) out (poured_into xs out))
    × ((xs : List Float) (out : List ℕ) → write_number xs (length out) ≡ 0 → KeptBehind (44 + 2 * length xs) out (recorded xs out))
    × ((file : List ℕ) (out : List ℤ) (frames : ℕ) → read_number file (length out) ≡ 0 → FileOf file frames
    → KeptBehind (2 * frames) out (replayed file out))
