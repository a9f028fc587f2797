-- 01, "Bank admission": the window is a part of one of the two lent sample memories.
use Rattle.std.specs.Prelude.{cond, ◌&&◌, List, [], ℕ, ◌-◌, leb, ℤ, length, take, drop}

-- the part of a memory from start to end; none of it where that does not lie within
abbrev pub part_of : List ℤ → ℕ → ℕ → List ℤ
part_of m start end = cond (leb start end && leb end (length m)) (take (end - start) (drop start m)) []
