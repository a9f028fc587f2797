-- Numbers added into a list of sums, and the bounds of the sums. `loudest` bounds what one voice adds.
use Rattle.std.specs.Prelude.{ℕ, zero, suc, ◌*◌, ◌≤◌, List, [], ◌∷◌, ℤ, ◌+ℤ◌, pos, get_or}
use Rattle.arith.specs.Within.{Within}

-- the most that one voice adds to a sum, up or down
abbrev pub loudest : ℕ
loudest = 8388611

-- the first elements of ys, each with its element of xs added
unfoldable pub add_to : List ℤ → List ℤ → List ℤ
add_to [] ys = ys
add_to (x ∷ xs) [] = []
add_to (x ∷ xs) (y ∷ ys) = (y +ℤ x) ∷ add_to xs ys

-- the same from element k on
unfoldable pub add_at : ℕ → List ℤ → List ℤ → List ℤ
add_at zero xs ys = add_to xs ys
add_at (suc k) xs [] = []
add_at (suc k) xs (y ∷ ys) = y ∷ add_at k xs ys

-- each element is at most what b voices add
abbrev pub Small : ℕ → List ℤ → Type 0
Small b xs = (j : ℕ) → Within (get_or xs j (pos 0)) (b * loudest)

-- each element from k on is at most what 31 voices add
abbrev pub From : ℕ → List ℤ → Type 0
From k xs = (j : ℕ) → k ≤ j → Within (get_or xs j (pos 0)) (31 * loudest)
