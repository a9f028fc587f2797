-- A number that was looked for among n numbers that follow each other, the first of which is `from`.
use Rattle.std.specs.Prelude.{Bool, true, false, ℕ, zero, suc, ◌+◌, Option, None, Some, option_map}
use Rattle.std.specs.Option.{option_or}

-- a, or where there is none b
abbrev pub or_else : Option ℕ → Option ℕ → Option ℕ
or_else a b = option_or a b

-- f of what was found
abbrev pub placed : (ℕ → ℕ) → Option ℕ → Option ℕ
placed f x = option_map f x

-- x, where the test passes
abbrev pub given : Bool → ℕ → Option ℕ
given false x = None
given true x = Some x

-- the first of the n numbers at which p holds
unfoldable pub first : (ℕ → Bool) → ℕ → ℕ → Option ℕ
first p from zero = None
first p from (suc n) = or_else (first p from n) (given (p (from + n)) (from + n))

-- the last of the n numbers at which p holds
unfoldable pub last : (ℕ → Bool) → ℕ → ℕ → Option ℕ
last p from zero = None
last p from (suc n) = or_else (given (p (from + n)) (from + n)) (last p from n)
