-- 01, "Bank admission": nine sub-chunks, each a four-letter name, a 32-bit size and a body of records.
use Rattle.std.specs.Prelude.{ℕ, ◌+◌, ◌*◌, zero, suc, ◌/◌, List, [], ◌∷◌, get_or}
use Rattle.arith.specs.Bytes.{u32_at}

-- four letters as the number that u32_at reads
abbrev letters : ℕ → ℕ → ℕ → ℕ → ℕ
letters a b c d = a + b * 256 + c * 65536 + d * 16777216

-- phdr, pbag, pmod, pgen, inst, ibag, imod, igen, shdr
abbrev pub names : List ℕ
names =
    letters 112 104 100 114 ∷ letters 112 98 97 103 ∷ letters 112 109 111 100 ∷ letters 112 103 101 110
    ∷ letters 105 110 115 116 ∷ letters 105 98 97 103 ∷ letters 105 109 111 100 ∷ letters 105 103 101 110
    ∷ letters 115 104 100 114 ∷ []

-- the size of a record of each
abbrev pub sizes : List ℕ
sizes = 38 ∷ 4 ∷ 10 ∷ 4 ∷ 22 ∷ 4 ∷ 10 ∷ 4 ∷ 46 ∷ []

-- the fewest records of each
abbrev pub leasts : List ℕ
leasts = 2 ∷ 1 ∷ 1 ∷ 1 ∷ 2 ∷ 1 ∷ 1 ∷ 1 ∷ 2 ∷ []

-- where chunk k begins: the first at 0, each behind the one before; chunk 9 is where the ninth ends
unfoldable pub chunk_at : List ℕ → ℕ → ℕ
chunk_at b zero = 0
chunk_at b (suc k) = chunk_at b k + 8 + u32_at b (chunk_at b k + 4)

-- the name of chunk k, as stored
unfoldable pub name_at : List ℕ → ℕ → ℕ
name_at b k = u32_at b (chunk_at b k)

-- the bytes of its body, as stored
unfoldable pub bytes_in : List ℕ → ℕ → ℕ
bytes_in b k = u32_at b (chunk_at b k + 4)

-- where its body begins
unfoldable pub body : List ℕ → ℕ → ℕ
body b k = chunk_at b k + 8

-- its number of records, the terminal one too
unfoldable pub records : List ℕ → ℕ → ℕ
records b k = bytes_in b k / get_or sizes k 0
