-- The sum of the four points as the code works it out (`ReadingLaws.curve-risen`: it is the same).
use Rattle.std.specs.Prelude.{ℤ, pos, ◌+ℤ◌, ◌-ℤ◌, ◌*ℤ◌}

-- from the differences a, b and c of the points on: the terms of q, q² and q³, by Horner's rule
abbrev pub risen : (a b c q : ℤ) → ℤ
risen a b c q = (((c -ℤ b -ℤ (b -ℤ a)) *ℤ q +ℤ (b -ℤ a -ℤ (c -ℤ b -ℤ (b -ℤ a))) *ℤ pos 4096) *ℤ q +ℤ (a +ℤ b) *ℤ pos 16777216) *ℤ q
