-- What is told of a window past its memory, as numbers.
use Rattle.std.specs.Prelude.{ℕ, Option, None, Some}

-- 8 where one was found, as a note-on that needs it answers
abbrev pub past_number : Option ℕ → ℕ
past_number None = 0
past_number (Some p) = 8

-- its place, 0 where there is none
abbrev pub past_place : Option ℕ → ℕ
past_place None = 0
past_place (Some p) = p
