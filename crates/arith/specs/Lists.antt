-- Counts, sums and tests over a list.
use Rattle.std.specs.Prelude.{ℕ, ◌+◌, Bool, cond, false, ◌||◌, List, [], ◌∷◌, ℤ, pos, ◌+ℤ◌}

-- how many of a list pass a test
abbrev pub count_if : {A : Type 0} → (A → Bool) → List A → ℕ
count_if p [] = 0
count_if p (x ∷ xs) = cond (p x) 1 0 + count_if p xs

-- the sum of f over a list
abbrev pub sum_of : {A : Type 0} → (A → ℤ) → List A → ℤ
sum_of f [] = pos 0
sum_of f (x ∷ xs) = f x +ℤ sum_of f xs

-- whether one of a list passes a test
abbrev pub any_of : {A : Type 0} → (A → Bool) → List A → Bool
any_of p [] = false
any_of p (x ∷ xs) = p x || any_of p xs
