-- Each side's share of a number by a product and a shift (`SidesLaws.part_left`, `part_right`: it is 01's floor).
use Rattle.std.specs.Prelude.{ℕ, ◌+◌, ◌*◌, ◌/◌, ℤ, pos, nat_abs, ◌+ℤ◌, ◌-ℤ◌, ◌*ℤ◌}
use Rattle.arith.specs.Floors.{floor_z}
use Rattle.voice.specs.Sound.{pan_of}

-- the thousandths that go left
abbrev pub left_out : ℤ → ℕ
left_out p = nat_abs (pos 500 -ℤ pan_of p)

-- and right
abbrev pub right_out : ℤ → ℕ
right_out p = nat_abs (pos 500 +ℤ pan_of p)

-- k thousandths in 2^-38, rounded up
abbrev pub share : ℕ → ℕ
share k = (k * 274877906944 + 999) / 1000

-- a share of u; the offset is more than the rounding of the share takes away below 0
unfoldable pub part : ℤ → ℕ → ℤ
part u s = floor_z (u *ℤ pos s +ℤ pos 16777216) 274877906944
