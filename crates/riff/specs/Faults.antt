-- What can be wrong with a file, each case by itself, and the first of what is: the numbers and places of refusals, with no order of tests.
use Rattle.std.specs.Prelude.{List, ◌⊎◌, ◌≡◌, ℕ, ◌+◌, ◌<◌, ◌≤◌, length}
use Rattle.arith.specs.Bytes.{u32_at}
use Rattle.riff.specs.Chunks.{list_name, size_at, body_end, next_at}
use Rattle.riff.specs.Form.{riff_name, font_type, bank_type, data_type, samples_name, find_of}

-- a chunk that lies in front of an end with its head and its body; a list has room for its type
pub record WholeChunk (b : List ℕ) (end at : ℕ) : Type 0 where
  pub body-in : body_end b at ≤ end
  pub typed : u32_at b at ≡ list_name → 4 ≤ size_at b at

-- a place where a chunk is looked for: where a walk begins, and behind each whole chunk
pub data Walked (b : List ℕ) (end from : ℕ) : ℕ → Type 0 where
  at-start : Walked b end from from
  behind-whole : (at : ℕ) → Walked b end from at → WholeChunk b end at → Walked b end from (next_at b end at)

-- a chunk that is looked for and is not whole
pub record Broken (b : List ℕ) (end from at : ℕ) : Type 0 where
  pub reached : Walked b end from at
  pub more : at < end
  pub not-whole : WholeChunk b end at → ⊥

-- a whole chunk of a kind
pub record ChunkOf (b : List ℕ) (end from : ℕ) (Is : ℕ → Type 0) (at : ℕ) : Type 0 where
  pub reached : Walked b end from at
  pub whole : WholeChunk b end at
  pub is : Is at

-- the first of its kind
pub record FirstOf (b : List ℕ) (end from : ℕ) (Is : ℕ → Type 0) (at : ℕ) : Type 0 where
  pub stands : ChunkOf b end from Is at
  pub first : (other : ℕ) → ChunkOf b end from Is other → at ≤ other

-- none of its kind
abbrev pub NoneOf : List ℕ → ℕ → ℕ → (ℕ → Type 0) → Type 0
NoneOf b end from Is = (at : ℕ) → ChunkOf b end from Is at → ⊥

-- a list of a type
abbrev pub IsList : List ℕ → ℕ → ℕ → Type 0
IsList b kind at = (u32_at b at ≡ list_name) × (u32_at b (at + 8) ≡ kind)

-- a smpl chunk
abbrev pub IsSamples : List ℕ → ℕ → Type 0
IsSamples b at = u32_at b at ≡ samples_name

-- the form lies in the file and has room for its type
pub record Formed (b : List ℕ) : Type 0 where
  pub body-in : body_end b 0 ≤ length b
  pub typed : 4 ≤ size_at b 0

-- what can be wrong, with its number and its place
pub data Amiss (b : List ℕ) : ℕ → ℕ → Type 0 where
  -- the file does not begin with RIFF
  no-riff : (u32_at b 0 ≡ riff_name → ⊥) → Amiss b 40 0
  -- the form's type is not sfbk
  no-font : (u32_at b 8 ≡ font_type → ⊥) → Amiss b 40 8
  -- the form passes the file's end, or has no room for its type
  no-form : (Formed b → ⊥) → Amiss b 41 0
  -- a chunk of the form is not whole
  in-form : (at : ℕ) → Formed b → Broken b (body_end b 0) 12 at → Amiss b 41 at
  -- a chunk of the first sdta list is not whole
  in-data : (list at : ℕ) → Formed b → FirstOf b (body_end b 0) 12 (IsList b data_type) list → Broken b (body_end b list) (list + 12) at → Amiss b 41 at
  -- there is no pdta list
  no-bank : Formed b → NoneOf b (body_end b 0) 12 (IsList b bank_type) → Amiss b 42 (body_end b 0)
  -- there is no sdta list
  no-data : Formed b → NoneOf b (body_end b 0) 12 (IsList b data_type) → Amiss b 42 (body_end b 0)
  -- there is no smpl chunk in the first
  no-samples :
      (list : ℕ) → Formed b → FirstOf b (body_end b 0) 12 (IsList b data_type) list → NoneOf b (body_end b list) (list + 12) (IsSamples b) → Amiss b 42 (body_end b list)

-- the first of what is wrong: no smaller number is, and the same number nowhere in front of it
pub record FirstFault (b : List ℕ) (number place : ℕ) : Type 0 where
  pub wrong : Amiss b number place
  pub before : (n p : ℕ) → Amiss b n p → (number < n) ⊎ ((number ≡ n) × (place ≤ p))

-- a refusal is of the first that is wrong
abbrev pub RefusalIsFirst : Type 0
RefusalIsFirst = (b : List ℕ) → ((find_of b).number ≡ 0 → ⊥) → FirstFault b (find_of b).number (find_of b).place

-- and the first that is wrong is refused
abbrev pub FirstIsRefused : Type 0
FirstIsRefused = (b : List ℕ) (number place : ℕ) → FirstFault b number place → ((find_of b).number ≡ number) × ((find_of b).place ≡ place)

-- in a file that is not refused nothing is wrong
abbrev pub FoundNotAmiss : Type 0
FoundNotAmiss = (b : List ℕ) (number place : ℕ) → (find_of b).number ≡ 0 → Amiss b number place → ⊥

-- and one in which nothing is wrong is not refused
abbrev pub NotAmissFound : Type 0
NotAmissFound = (b : List ℕ) → ((number place : ℕ) → Amiss b number place → ⊥) → (find_of b).number ≡ 0
