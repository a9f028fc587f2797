-- Laws of frames: they rise with U, and within an hour they are at most 158,760,000.
use Prim.Native.Nat.{ℕ, zero, suc, ◌*◌, ◌/◌, ◌<◌, ◌≤◌}
use native.Mathlib.Nat.{div-zero, div-le_of_le-mul, le-div_iff_mul-le, div-mul-le_self, le_trans, le_of_lt, mul-le-mul}
use native.Mathlib.Omega.{arith}
use Rattle.smf.specs.Ticks.{frame_of}

-- a larger number has no smaller quotient
quotient-rises : (k x y : ℕ) → x ≤ y → x / k ≤ y / k
quotient-rises zero x y h = rw (div-zero x, div-zero y) (omega arith)
quotient-rises (suc k) x y h = (le-div_iff_mul-le {k = suc k} (omega arith)).1 (le_trans (div-mul-le_self x (suc k)) h)

-- U does not fall, so frames do not
pub frame-rises : (division low high : ℕ) → low ≤ high → frame_of division low ≤ frame_of division high
unfolding frame_of
frame-rises division low high h = quotient-rises (division * 1000000) (low * 44100) (high * 44100) (omega arith)

-- an hour is 158,760,000 frames
pub frame-in : (division sum : ℕ) → sum ≤ 3600000000 * division → frame_of division sum ≤ 158760000
unfolding frame_of
frame-in division sum h = div-le_of_le-mul (division * 1000000) (omega arith)

-- a delta time in any tempo
pub delta-in : (ticks tempo : ℕ) → ticks < 268435456 → tempo < 4294967296 → ticks * tempo ≤ 1152921504606846976
delta-in ticks tempo h k = mul-le-mul (le_of_lt h) (le_of_lt k)
