-- 01, "From a key to layers" and "Tables and steps": the cents of a bend, and the step of a pitch total.
use Rattle.std.specs.Prelude.{ℕ, ◌-◌, ◌*◌, ◌/◌, ◌%◌, ◌^◌, ℤ, pos, ◌-ℤ◌, ◌*ℤ◌, negsuc, nat_abs, ◌+ℤ◌, get_or}
use Rattle.arith.specs.Floors.{floor_z}
use Rattle.arith.specs.Holds.{held_to}
use Rattle.curves.specs.Octave.{octaves}

-- floor((bend - 8,192) * 25 / 1,024)
unfoldable pub bend_cents : ℕ → ℤ
bend_cents bend = floor_z ((pos bend -ℤ pos 8192) *ℤ pos 25) 1024

-- a pitch total, held to -9,600..4,800
abbrev pub pitch_held : ℤ → ℤ
pitch_held cents = held_to (negsuc 9599) (pos 4800) cents

-- cents above -9,600, as the table of steps counts them
abbrev pub lifted : ℤ → ℕ
lifted cents = nat_abs (cents +ℤ pos 9600)

-- floor(T * rate / (44,100 * 2^(6 - o))) for the pitch c - 9,600 = 1,200 * o + i: c / 1,200 is o + 8, and c % 1,200 is i
unfoldable pub step_of : ℕ → ℕ → ℕ
step_of c rate = get_or octaves (c % 1200) 0 * rate / (44100 * 2 ^ (14 - c / 1200))
