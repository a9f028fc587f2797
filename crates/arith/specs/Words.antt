-- 01, "Slots, keys and the clock": a word as a set of slots, a bit for each.
use Rattle.std.specs.Prelude.{ℕ, ◌/◌, ◌%◌, ◌^◌}

-- digit j of the word n: 1 where slot j is in the set, else 0
abbrev pub bit : ℕ → ℕ → ℕ
bit n j = n / 2 ^ j % 2
