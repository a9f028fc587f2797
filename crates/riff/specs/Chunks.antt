-- RIFF: chunks one behind the other. A chunk is a name of four bytes, a size of four, a body of so many bytes, and a pad byte where the size is odd. Names and sizes are
-- numbers with the low byte first.
use Rattle.std.specs.Prelude.{Bool, cond, ◌&&◌, List, ℕ, zero, suc, ◌+◌, ◌%◌, min, eqb, leb}
use Rattle.arith.specs.Bytes.{u32_at}

-- LIST, 4C 49 53 54: a chunk of this name holds chunks, behind a type of four bytes
abbrev pub list_name : ℕ
list_name = 1414744396

-- the size that a chunk says
abbrev pub size_at : List ℕ → ℕ → ℕ
size_at b at = u32_at b (at + 4)

-- the place behind its body
abbrev pub body_end : List ℕ → ℕ → ℕ
body_end b at = at + 8 + size_at b at

-- the least size that it may have: a list has a type
unfoldable pub least_size : List ℕ → ℕ → ℕ
least_size b at = cond (eqb (u32_at b at) list_name) 4 0

-- a list's type; 0 of a chunk that is no list
unfoldable pub type_at : List ℕ → ℕ → ℕ
type_at b at = cond (eqb (u32_at b at) list_name) (u32_at b (at + 8)) 0

-- whether a chunk lies in front of the end, with its name, its size, its type and its body
unfoldable pub is_whole : List ℕ → ℕ → ℕ → Bool
is_whole b end at = leb (body_end b at) end && leb (least_size b at) (size_at b at)

-- whether it has a name and, as a list, a type
unfoldable pub is_named : List ℕ → ℕ → ℕ → ℕ → Bool
is_named b name kind at = eqb (u32_at b at) name && eqb (type_at b at) kind

-- where the next chunk begins: behind the pad byte of an odd size. One that is missing at the end is forgiven
unfoldable pub next_at : List ℕ → ℕ → ℕ → ℕ
next_at b end at = min end (body_end b at + size_at b at % 2)

-- where a walk over at most n chunks stops: at the first place where no whole chunk is
unfoldable pub stop_from : ℕ → List ℕ → ℕ → ℕ → ℕ
stop_from zero b end at = at
stop_from (suc n) b end at = cond (is_whole b end at) (stop_from n b end (next_at b end at)) at

-- the first of at most n whole chunks that has a name and a type; the end where there is none
unfoldable pub first_from : ℕ → List ℕ → ℕ → ℕ → ℕ → ℕ → ℕ
first_from zero b end name kind at = end
first_from (suc n) b end name kind at =
    cond (is_whole b end at) (cond (is_named b name kind at) at (first_from n b end name kind (next_at b end at))) end

-- the same of all chunks: there are fewer than bytes in front of the end
unfoldable pub stop_at : List ℕ → ℕ → ℕ → ℕ
stop_at b end at = stop_from end b end at

-- .. and of the first that is named
unfoldable pub first_at : List ℕ → ℕ → ℕ → ℕ → ℕ → ℕ
first_at b end name kind at = first_from end b end name kind at
