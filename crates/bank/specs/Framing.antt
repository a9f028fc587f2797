-- 01, "Bank admission", tests 2 and 3: chunks, and records of whole size. Each test gives the first byte place at fault, or nothing.
use Rattle.std.specs.Prelude.{Bool, not, ◌||◌, List, ℕ, ◌+◌, ◌%◌, eqb, ltb, length, get_or, Option}
use Rattle.records.specs.Chunks.{names, chunk_at, name_at, sizes, leasts, bytes_in, records}
use Rattle.records.specs.Looking.{or_else, placed, given, first}

-- 2. chunk name, order or length: chunk k has another name, or ends behind the bank
unfoldable pub bad_chunk : List ℕ → ℕ → Bool
bad_chunk b k = not (eqb (name_at b k) (get_or names k 0)) || ltb (length b) (chunk_at b (k + 1))

-- where the chunk begins, or the first byte left over
unfoldable pub chunk_fault : List ℕ → Option ℕ
chunk_fault b = or_else (placed (chunk_at b) (first (bad_chunk b) 0 9)) (given (ltb (chunk_at b 9) (length b)) (chunk_at b 9))

-- 3. record size or too few
unfoldable pub bad_records : List ℕ → ℕ → Bool
bad_records b k = not (eqb (bytes_in b k % get_or sizes k 0) 0) || ltb (records b k) (get_or leasts k 0)

-- where the chunk begins
unfoldable pub records_fault : List ℕ → Option ℕ
records_fault b = placed (chunk_at b) (first (bad_records b) 0 9)
