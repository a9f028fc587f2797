-- 01, "Tables and steps": the frames of a time in timecents.
use Rattle.std.specs.Prelude.{ℕ, ◌*◌, ◌/◌, ◌%◌, ◌^◌, get_or, cond, ℤ, pos, negsuc, ◌+ℤ◌, nat_abs}
use Rattle.std.specs.Int.Signed.{le_z}
use Rattle.curves.specs.Octave.{octaves}
use Rattle.arith.specs.Holds.{held_to}

-- floor(T * 44,100 * 2^o / 2^30) for the time c - 12,000 = 1,200 * o + i: c / 1,200 is o + 10, and c % 1,200 is i
unfoldable pub frames_up : ℕ → ℕ
frames_up c = get_or octaves (c % 1200) 0 * 44100 * 2 ^ (c / 1200) / 2 ^ 40

-- the frames for t timecents, held to -12,000..top; none at -32,768 or less
unfoldable pub frames : ℤ → ℤ → ℕ
frames top t = cond (le_z t (negsuc 32767)) 0 (frames_up (nat_abs (held_to (negsuc 11999) top t +ℤ pos 12000)))
