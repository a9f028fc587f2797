-- 02, M-107: an output number k/2^23 as the 16-bit number floor(k/256), at most 32,767; and the way back.
use Rattle.std.specs.Prelude.{Bool, false, ◌&&◌, cond, ◌*◌, ◌/◌, ◌%◌, eqb, leb, Float, ℤ, pos, neg_ℤ, nat_abs}
use Rattle.std.specs.Float.{nan, inf, fin, binary32}
use Rattle.std.specs.Float.Ieee.{up, down, round}
use Rattle.std.specs.Int.Signed.{lt_z}
use Rattle.arith.specs.Floats.{is_neg}
use Rattle.arith.specs.Floors.{floor_z}

-- x is a whole k/2^23 in -1..1: its size, m * up e over down e, times 2^23 is a whole number, and it is at most 1
unfoldable pub is_output : Float → Bool
is_output nan = false
is_output (inf s) = false
is_output (fin s m e) = eqb (m * up e * 8388608 % down e) 0 && leb (m * up e) (down e)

-- its k; -0 counts as 0
unfoldable pub k_of : Float → ℤ
k_of nan = pos 0
k_of (inf s) = pos 0
k_of (fin s m e) = cond s (neg_ℤ (pos (m * up e * 8388608 / down e))) (pos (m * up e * 8388608 / down e))

-- floor(k / 256), at most 32,767
unfoldable pub pcm_of_k : ℤ → ℤ
pcm_of_k k = cond (lt_z (pos 32767) (floor_z k 256)) (pos 32767) (floor_z k 256)

-- the 16-bit number of an output number
unfoldable pub pcm_of : Float → ℤ
pcm_of x = pcm_of_k (k_of x)

-- an output number of a 16-bit number: v/2^15, which is 256 v / 2^23
unfoldable pub number_of : ℤ → Float
number_of v = round binary32 (is_neg v) (nat_abs v) 32768
