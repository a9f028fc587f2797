-- Numbers tested against a range, and held to one.
use Rattle.std.specs.Prelude.{cond, Bool, ◌&&◌, ℤ, pos, negsuc, ℕ, leb}
use Rattle.std.specs.Int.Signed.{lt_z, le_z}

-- k, brought to the nearest end of lo .. hi where it is past it
abbrev pub held_to : ℤ → ℤ → ℤ → ℤ
held_to lo hi k = cond (lt_z k lo) lo (cond (lt_z hi k) hi k)

-- low <= x <= high
unfoldable pub between : ℕ → ℕ → ℕ → Bool
between low high x = leb low x && leb x high

-- low <= x <= high, signed
unfoldable pub between_z : ℤ → ℤ → ℤ → Bool
between_z low high x = le_z low x && le_z x high

-- x where it is a 32-bit number; the nearest one where it is not
unfoldable pub word32 : ℤ → ℕ
word32 (pos a) = cond (leb a 4294967295) a 4294967295
word32 (negsuc a) = 0
