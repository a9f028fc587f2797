-- What the loops over the order of age look for.
use Rattle.std.specs.Prelude.{ℕ, ◌%◌, suc, cond, List, [], ◌∷◌, eqb}

-- an entry of the order, read as a slot
abbrev pub as_slot : ℕ → ℕ
as_slot i = i % 32

-- where i first stands in a list; its length where it does not
unfoldable pub first_at : ℕ → List ℕ → ℕ
first_at i [] = 0
first_at i (x ∷ xs) = cond (eqb x i) 0 (suc (first_at i xs))
