-- Files as they are written, from their parts.
use Rattle.std.specs.Prelude.{cond, List, [], ◌∷◌, ◌++◌, ◌≡◌, ℕ, ◌+◌, ◌/◌, ◌%◌, ◌<◌, ◌≤◌, eqb, length, take, drop}
use Rattle.arith.specs.Bytes.{u32_at}
use Rattle.riff.specs.declared.Part.{Part}
use Rattle.riff.specs.Chunks.{list_name}
use Rattle.riff.specs.Form.{riff_name, font_type, bank_type, data_type, samples_name, find_of}

-- a number in four bytes, the lowest first
unfoldable pub four_low_first : ℕ → List ℕ
four_low_first n = n % 256 ∷ n / 256 % 256 ∷ n / 65536 % 256 ∷ n / 16777216 % 256 ∷ []

-- a chunk: its name as a number, and its body
pub record Chunk : Type 0 where
  pub name : ℕ
  pub body : List ℕ

-- a pad byte behind a body of odd size
unfoldable pub pad_of : ℕ → List ℕ
pad_of size = cond (eqb (size % 2) 1) (0 ∷ []) []

-- a chunk as bytes
unfoldable pub chunk_bytes : Chunk → List ℕ
chunk_bytes c = four_low_first c.name ++ (four_low_first (length c.body) ++ (c.body ++ pad_of (length c.body)))

-- chunks one behind the other
unfoldable pub chunks_bytes : List Chunk → List ℕ
chunks_bytes [] = []
chunks_bytes (c ∷ cs) = chunk_bytes c ++ chunks_bytes cs

-- a list of a type
abbrev pub list_of : ℕ → List ℕ → Chunk
list_of kind body = record { name = list_name; body = four_low_first kind ++ body }

-- a file: RIFF, its size, sfbk, and its chunks
unfoldable pub file_of : List Chunk → List ℕ
file_of cs = four_low_first riff_name ++ (four_low_first (4 + length (chunks_bytes cs)) ++ (four_low_first font_type ++ chunks_bytes cs))

-- each of some chunks has a name of four bytes, and a type where it is a list
abbrev pub GoodChunks : List Chunk → Type 0
GoodChunks [] = Unit {0}
GoodChunks (c ∷ cs) = ((c.name < 4294967296) × (c.name ≡ list_name → 4 ≤ length c.body)) × GoodChunks cs

-- none of some chunks is of a kind
abbrev pub NoneIs : (Chunk → Type 0) → List Chunk → Type 0
NoneIs Is [] = Unit {0}
NoneIs Is (c ∷ cs) = (Is c → ⊥) × NoneIs Is cs

-- a list of this type
abbrev pub OfType : ℕ → Chunk → Type 0
OfType kind c = (c.name ≡ list_name) × (u32_at c.body 0 ≡ kind)

-- a chunk smpl
abbrev pub Sampled : Chunk → Type 0
Sampled c = c.name ≡ samples_name

-- a chunk is the first of its kind among some, behind those of `front`
pub record Among (cs : List Chunk) (Is : Chunk → Type 0) (front : List Chunk) (c : Chunk) : Type 0 where
  pub behind : List Chunk
  pub cut : cs ≡ front ++ (c ∷ behind)
  pub none : NoneIs Is front

-- a file from parts: chunks in any order with a bank among them and, in a list of chunks, samples
pub record Written (cs inner bank-front data-front samples-front : List Chunk) (bank samples : List ℕ) : Type 0 where
  pub small : 4 + length (chunks_bytes cs) < 4294967296
  pub good : GoodChunks cs
  pub good-inner : GoodChunks inner
  pub bank-in : Among cs (OfType bank_type) bank-front (list_of bank_type bank)
  pub data-in : Among cs (OfType data_type) data-front (list_of data_type (chunks_bytes inner))
  pub samples-in : Among inner Sampled samples-front (record { name = samples_name; body = samples })

-- where the bank of such a file lies: behind the file's first 12 bytes, the chunks in front, and the list's first 12 bytes
abbrev pub bank_part : List Chunk → List ℕ → Part
bank_part front bank = record { at = 12 + length (chunks_bytes front) + 12; size = length bank }

-- .. and its samples, behind a chunk's first 8 bytes
abbrev pub samples_part : List Chunk → List Chunk → List ℕ → Part
samples_part front inner samples = record { at = 12 + length (chunks_bytes front) + 12 + length (chunks_bytes inner) + 8; size = length samples }

-- the bytes of a part
abbrev pub bytes_at : List ℕ → Part → List ℕ
bytes_at b part = take part.size (drop part.at b)

-- exactly these parts are found
abbrev pub WrittenIsFound : Type 0
WrittenIsFound =
    (cs inner bank-front data-front samples-front : List Chunk) (bank samples : List ℕ) → Written cs inner bank-front data-front samples-front bank samples
    → find_of (file_of cs) ≡ record { number = 0; place = 0; bank = bank_part bank-front bank; samples = samples_part data-front samples-front samples }

-- and what lies there is what was written
abbrev pub PartsAsWritten : Type 0
PartsAsWritten =
    (cs inner bank-front data-front samples-front : List Chunk) (bank samples : List ℕ) → Written cs inner bank-front data-front samples-front bank samples
    → (bytes_at (file_of cs) (bank_part bank-front bank) ≡ bank) × (bytes_at (file_of cs) (samples_part data-front samples-front samples) ≡ samples)
