-- Sums of voices as 16-bit numbers at a lower level: each is lowered by one gain before it is held.
use Rattle.std.specs.Prelude.{Bool, cond, ◌||◌, List, [], ◌∷◌, ◌++◌, ℕ, ◌+◌, ◌*◌, ◌/◌, ◌%◌, max, min, eqb, leb, ltb, ℤ, pos, negsuc, nat_abs, ◌*ℤ◌, length, drop}
use Rattle.std.specs.Int.Signed.{lt_z}
use Rattle.arith.specs.Floors.{floor_z, mod_z}
use Rattle.arith.specs.Holds.{held_to}
use Rattle.curves.specs.Levels.{gain_of, least_cb}
use Rattle.wave.specs.Answers.{SumsTold}
use Rattle.wave.specs.Headings.{in_two}
use Rattle.wave.specs.Pcm.{pcm_of_k}

-- a sum times a gain g of 2^-24, rounded down
unfoldable pub lowered_by : ℕ → ℤ → ℤ
lowered_by g z = floor_z (z *ℤ pos g) 16777216

-- a lowered sum lies outside -2^23..2^23
unfoldable pub is_past : ℤ → Bool
is_past k = lt_z k (negsuc 8388607) || lt_z (pos 8388608) k

-- the 16-bit number of a sum, in two's complement: lowered, held to -2^23..2^23, then as M-107 has it
unfoldable pub sum_word : ℕ → ℤ → ℕ
sum_word g z = mod_z (pcm_of_k (held_to (negsuc 8388607) (pos 8388608) (lowered_by g z))) 65536

-- the bytes of all sums, in order, two for each
unfoldable pub poured_sums : ℕ → List ℤ → List ℕ
poured_sums g [] = []
poured_sums g (z ∷ zs) = in_two (sum_word g z) ++ poured_sums g zs

-- how many frames, of two sums each, have a sum that is past -2^23..2^23 when it is lowered
unfoldable pub frames_past : ℕ → List ℤ → ℕ
frames_past g [] = 0
frames_past g (l ∷ []) = 0
frames_past g (l ∷ r ∷ zs) = cond (is_past (lowered_by g l) || is_past (lowered_by g r)) 1 0 + frames_past g zs

-- the largest size of a sum, before it is lowered; 0 of none
unfoldable pub loudest_of : List ℤ → ℕ
loudest_of [] = 0
loudest_of (z ∷ zs) = max (nat_abs z) (loudest_of zs)

-- the tests, in order: 13 for an odd count, 15 (`room` is the output's length)
unfoldable pub sums_number : List ℤ → ℕ → ℕ
sums_number zs room = cond (eqb (length zs % 2) 1) 13 (cond (ltb room (2 * length zs)) 15 0)

-- the answer: the number, the frames that are held (4,294,967,295 where there are more) and the loudest sum; refused, both are 0
unfoldable pub sums_poured : ℕ → List ℤ → ℕ → SumsTold
sums_poured a zs room =
    cond (eqb (sums_number zs room) 0)
    (record { number = 0; held = min (frames_past (gain_of a) zs) 4294967295; loudest = loudest_of zs })
    (record { number = sums_number zs room; held = 0; loudest = 0 })

-- all of the lent output: done, its first two bytes a sum are written and no other; refused, none
unfoldable pub sums_into : ℕ → List ℤ → List ℕ → List ℕ
sums_into a zs out =
    cond (eqb (sums_number zs (length out)) 0) (poured_sums (gain_of a) zs ++ drop (2 * length zs) out) out

-- the least attenuation in cB with which no sum of at most this size is held: the gain times the size is at most 2^47
unfoldable pub attenuation_for : ℕ → ℕ
attenuation_for size = cond (leb size 8388608) 0 (least_cb (140737488355328 / size))
