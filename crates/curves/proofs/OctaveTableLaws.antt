-- The rule of the octave table, for every entry: tested part by part, each by one computation.
use Prim.Native.Nat.{ℕ, ◌^◌, ◌+◌, ◌<◌, ◌≤◌}
use mathlib.Core.Bool.{Bool}
use lib.Dec.{T}
use mathlib.Core.List.{◌++◌}
use lib.ListN.{get_or}
use native.Mathlib.Nat.{pow-le-pow_left, le_trans}
use native.Mathlib.Omega.{arith}
use lib.Pow.{pow_mono}
use Rattle.curves.proofs.Tables.{fits, every, join, at, fits_low, fits-high, largest}
use Rattle.curves.specs.OctaveTable.{octaves0, octaves1, octaves2, octaves3, octaves4, octaves5, octaves6, octaves7}
use Rattle.curves.specs.Octave.{octaves}
use Rattle.curves.specs.Loudness.{Largest}

power : ℕ → ℕ
power t = t ^ 1200

right : ℕ → ℕ → Bool
right i t = fits power (2 ^ (i + 36000)) t

holds0 : T (every right 0 octaves0)
unfolding right power
holds0 = tt

holds1 : T (every right 150 octaves1)
unfolding right power
holds1 = tt

holds2 : T (every right 300 octaves2)
unfolding right power
holds2 = tt

holds3 : T (every right 450 octaves3)
unfolding right power
holds3 = tt

holds4 : T (every right 600 octaves4)
unfolding right power
holds4 = tt

holds5 : T (every right 750 octaves5)
unfolding right power
holds5 = tt

holds6 : T (every right 900 octaves6)
unfolding right power
holds6 = tt

holds7 : T (every right 1050 octaves7)
unfolding right power
holds7 = tt

whole : T (every right 0 octaves)
whole =
    join right 0 octaves0 (octaves1 ++ octaves2 ++ octaves3 ++ octaves4 ++ octaves5 ++ octaves6 ++ octaves7) holds0
    (join right 150 octaves1 (octaves2 ++ octaves3 ++ octaves4 ++ octaves5 ++ octaves6 ++ octaves7) holds1
    (join right 300 octaves2 (octaves3 ++ octaves4 ++ octaves5 ++ octaves6 ++ octaves7) holds2
    (join right 450 octaves3 (octaves4 ++ octaves5 ++ octaves6 ++ octaves7) holds3
    (join right 600 octaves4 (octaves5 ++ octaves6 ++ octaves7) holds4
    (join right 750 octaves5 (octaves6 ++ octaves7) holds5
    (join right 900 octaves6 octaves7 holds6 holds7))))))

tested : (i : ℕ) → i < 1200 → T (fits power (2 ^ (i + 36000)) (get_or octaves i 0))
unfolding right
tested i h = at right octaves whole i h

-- T^1200 <= 2^(i + 36,000)
pub octave-low : (i : ℕ) → i < 1200 → get_or octaves i 0 ^ 1200 ≤ 2 ^ (i + 36000)
unfolding power
octave-low i h = fits_low power (2 ^ (i + 36000)) (get_or octaves i 0) (tested i h)

-- 2^(i + 36,000) < (T + 1)^1200
pub octave-high : (i : ℕ) → i < 1200 → 2 ^ (i + 36000) < (get_or octaves i 0 + 1) ^ 1200
unfolding power
octave-high i h = fits-high power (2 ^ (i + 36000)) (get_or octaves i 0) (tested i h)

-- T is the largest whole number with T^1200 <= 2^(i + 36,000)
pub octave-largest : (i : ℕ) → i < 1200 → Largest (λ (t : ℕ). t ^ 1200 ≤ 2 ^ (i + 36000)) (get_or octaves i 0)
unfolding power
octave-largest i h = largest power (2 ^ (i + 36000)) (get_or octaves i 0) (λ a b l. pow-le-pow_left l 1200) (tested i h)

-- so it never falls
pub octave-rises : (i j : ℕ) → i ≤ j → j < 1200 → get_or octaves i 0 ≤ get_or octaves j 0
octave-rises i j h l =
    (octave-largest j l).most (get_or octaves i 0)
    (le_trans (octave-low i (omega arith)) (pow_mono {i = i + 36000} {j = j + 36000} (omega arith)))
