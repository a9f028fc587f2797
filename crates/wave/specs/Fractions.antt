-- 02, M-107: what an output number is, and what its 16-bit number is, without the arithmetic of the definitions.
use Rattle.std.specs.Prelude.{Bool, true, ◌⊎◌, ◌≡◌, Float, ℤ, pos, negsuc, nat_abs, ◌+ℤ◌, ◌*ℤ◌, ◌≤ℤ◌, ◌<ℤ◌}
use Rattle.std.specs.Float.Ieee.Exact.{HasValue}
use Rattle.arith.specs.Floats.{is_neg, Over}
use Rattle.arith.specs.Within.{Within}
use Rattle.wave.specs.Pcm.{is_output, k_of, pcm_of_k, number_of}

-- x is the output number k/2^23: finite, of exactly that size, which is at most 1, and of k's sign; a 0 may have either sign
pub record OutputAt (x : Float) (k : ℤ) : Type 0 where
  pub sign : Bool
  pub value : HasValue x sign (nat_abs k) 8388608
  pub small : Within k 8388608
  pub signed : (k ≡ pos 0) ⊎ (sign ≡ is_neg k)

-- x is an output number: it is one for some whole k
abbrev pub AnOutput : Float → Type 0
AnOutput x = (k : ℤ) × OutputAt x k

-- what passes the test is an output number, and its k is the one that the definition gives
abbrev pub PassedIsOutput : Type 0
PassedIsOutput = (x : Float) → is_output x ≡ true → OutputAt x (k_of x)

-- and an output number passes it, with that k and no other
abbrev pub OutputPasses : Type 0
OutputPasses = (x : Float) (k : ℤ) → OutputAt x k → (is_output x ≡ true) × (k_of x ≡ k)

-- v is floor(k/256), or 32,767 where that is 32,768; and it is a number of 16 bits
pub record FloorHeld (k v : ℤ) : Type 0 where
  pub low : (v *ℤ pos 256) ≤ℤ k
  pub high : (k <ℤ ((v +ℤ pos 1) *ℤ pos 256)) ⊎ ((v ≡ pos 32767) × (k ≡ pos 8388608))
  pub least : negsuc 32767 ≤ℤ v
  pub most : v ≤ℤ pos 32767

-- so it is for every k that an output number has
abbrev pub PcmIsFloor : Type 0
PcmIsFloor = (k : ℤ) → Within k 8388608 → FloorHeld k (pcm_of_k k)

-- a 16-bit number as a float is v/2^15 with nothing rounded
abbrev pub NumberIsExact : Type 0
NumberIsExact = (v : ℤ) → Within v 32768 → Over (number_of v) v 32768
