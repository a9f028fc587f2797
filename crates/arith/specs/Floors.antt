-- Quotients of whole numbers rounded down, and what is left of them.
use Rattle.std.specs.Prelude.{ℕ, ◌-◌, ◌%◌, ℤ, pos, negsuc}
use Rattle.std.specs.Int.Signed.{shr_z}

-- floor(z / m), the rule by which 01 rounds
abbrev pub floor_z : ℤ → ℕ → ℤ
floor_z z m = shr_z z m

-- x modulo m, never negative
unfoldable pub mod_z : ℤ → ℕ → ℕ
mod_z (pos a) m = a % m
mod_z (negsuc a) m = m - 1 - a % m
