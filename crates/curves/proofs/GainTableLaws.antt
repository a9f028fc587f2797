-- The rule of the gains that are kept, for every entry; and the two parts in which the source keeps them.
use Prim.Native.Nat.{ℕ, ◌+◌, ◌-◌, ◌*◌, ◌^◌, ◌/◌, ◌%◌, ◌<◌}
use mathlib.Core.Bool.{Bool}
use mathlib.Core.List.{map}
use mathlib.Core.Path.{◌≡◌}
use lib.Dec.{T, eqb, eqb→eq}
use lib.ListN.{get_or, get_or-map}
use native.Mathlib.Nat.{pow-le-pow_left, mul-le-mul_right}
use Rattle.curves.proofs.Tables.{fits, every, largest, at}
use Rattle.curves.specs.Levels.{gains}
use Rattle.curves.specs.Loudness.{Largest, Lowered}

lowered : ℕ → ℕ → ℕ
lowered a g = g ^ 200 * 10 ^ a

right : ℕ → ℕ → Bool
right a g = fits (lowered a) (2 ^ 4800) g

whole : T (every right 0 gains)
unfolding right lowered
whole = tt

-- G is the largest whole number with G^200 * 10^i <= 2^4,800
pub kept-largest : (i : ℕ) → i < 200 → Largest (Lowered i) (get_or gains i 0)
unfolding right lowered
kept-largest i h = largest (lowered i) (2 ^ 4800) (get_or gains i 0) (λ x y l. mul-le-mul_right (10 ^ i) (pow-le-pow_left l 200)) (at right gains whole i h)

-- the high part of a gain, and the low one
unfoldable pub high_of : ℕ → ℕ
high_of g = (g - 1) / 256

unfoldable pub low_of : ℕ → ℕ
low_of g = (g - 1) % 256

joins : ℕ → ℕ → Bool
joins i g = eqb (high_of g * 256 + low_of g + 1) g

all_join : T (every joins 0 gains)
unfolding joins high_of low_of
all_join = tt

-- the parts of each gain make it
pub parts_join : (i : ℕ) → i < 200 → get_or (map high_of gains) i 0 * 256 + get_or (map low_of gains) i 0 + 1 ≡ get_or gains i 0
unfolding joins high_of low_of
parts_join i h =
    rw (get_or-map high_of gains i 0, get_or-map low_of gains i 0)
    (eqb→eq (high_of (get_or gains i 0) * 256 + low_of (get_or gains i 0) + 1) (get_or gains i 0) (at joins gains all_join i h))
