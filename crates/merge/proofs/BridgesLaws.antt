-- Laws of bridges: what they leave is a delta time.
use mathlib.Core.Path.{◌≡◌}
use Prim.Native.Nat.{ℕ, ◌*◌, ◌-◌, ◌/◌, ◌<◌, ◌≤◌}
use native.Mathlib.Omega.{arith}
use Rattle.merge.specs.Bridges.{bridges_of, rest_of}

-- the bridges do not pass the gap
pub bridges-most : (gap : ℕ) → bridges_of gap * 268435455 ≤ gap
unfolding bridges_of
bridges-most gap = omega arith

-- what they leave has at most 28 bits
pub rest-small : (gap : ℕ) → rest_of gap < 268435456
unfolding rest_of bridges_of
rest-small gap = omega arith

-- a gap that one delta time says needs none
pub no-bridges : (gap : ℕ) → gap ≤ 268435455 → bridges_of gap ≡ 0
unfolding bridges_of
no-bridges gap h = omega arith

-- .. and is left as it is
pub rest-whole : (gap : ℕ) → gap ≤ 268435455 → rest_of gap ≡ gap
unfolding rest_of bridges_of
rest-whole gap h = omega arith
