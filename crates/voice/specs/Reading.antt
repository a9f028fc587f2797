-- 01, "A voice, frame by frame", as 02's M-100 has it: the reading between samples of the window, by four points.
use Rattle.std.specs.Prelude.{ℕ, zero, suc, ◌+◌, ◌*◌, ◌/◌, ◌%◌, List, ℤ, pos, negsuc, ◌+ℤ◌, ◌-ℤ◌, ◌*ℤ◌, get_or, Bool, cond, ◌&&◌, eqb}
use Rattle.arith.specs.Floors.{floor_z}
use Rattle.arith.specs.Holds.{held_to}

-- the sample at i of the window; behind its last stands 0
abbrev pub sample : List ℤ → ℕ → ℤ
sample w i = get_or w i (pos 0)

-- the sample before sample i; before the window's first stands 0
unfoldable pub before : List ℤ → ℕ → ℤ
before w zero = pos 0
before w (suc i) = sample w i

-- the number of the sample behind sample i: while it folds, behind the loop's last stands its first
unfoldable pub behind : Bool → ℕ → ℕ → ℕ → ℕ
behind folding from to i = cond (folding && eqb (i + 1) to) from (i + 1)

-- the parts of the way from x1 to x2
abbrev pub Q : ℕ
Q = 4096

-- 2·x1·Q³ + (x2-x0)·q·Q² + (2·x0-5·x1+4·x2-x3)·q²·Q + (3·x1-x0-3·x2+x3)·q³
abbrev pub curve : (x0 x1 x2 x3 : ℤ) → ℕ → ℤ
curve x0 x1 x2 x3 q =
    pos 2 *ℤ x1 *ℤ pos (Q * Q * Q)
    +ℤ (x2 -ℤ x0) *ℤ pos (Q * Q * q)
    +ℤ (pos 2 *ℤ x0 -ℤ pos 5 *ℤ x1 +ℤ pos 4 *ℤ x2 -ℤ x3) *ℤ pos (Q * q * q)
    +ℤ (pos 3 *ℤ x1 -ℤ x0 -ℤ pos 3 *ℤ x2 +ℤ x3) *ℤ pos (q * q * q)

-- that sum over 2·Q³, rounded down and held to the 16-bit range
unfoldable pub interpolated : (x0 x1 x2 x3 : ℤ) → ℕ → ℤ
interpolated x0 x1 x2 x3 q = held_to (negsuc 32767) (pos 32767) (floor_z (curve x0 x1 x2 x3 q) (2 * Q * Q * Q))

-- the reading of window w between sample i and the one behind it
abbrev pub read_at : Bool → ℕ → ℕ → List ℤ → ℕ → ℕ → ℤ
read_at folding from to w i q =
    interpolated (before w i) (sample w i) (sample w (behind folding from to i)) (sample w (behind folding from to (behind folding from to i))) q

-- the reading of window w at a place in 2^-24 samples, with the loop from..to where it folds; q is the top 12 bits of the fraction
unfoldable pub reading : Bool → ℕ → ℕ → List ℤ → ℕ → ℤ
reading folding from to w place = read_at folding from to w (place / 16777216) (place % 16777216 / 4096)
