-- The rule of the velocity table, for every velocity.
use Prim.Native.Nat.{ℕ, ◌*◌, ◌^◌, suc, zero, ◌≤◌}
use mathlib.Core.Bool.{Bool}
use lib.Dec.{T, lit<}
use native.Mathlib.Nat.{not-suc-le-zero, mul-le-mul_right, pow-le-pow_right}
use Rattle.curves.proofs.Tables.{fits, every, largest, at}
use Rattle.curves.specs.VelocityTable.{velocities0}
use Rattle.curves.specs.Levels.{cb_of}
use Rattle.curves.specs.Loudness.{Largest}

raised : ℕ → ℕ → ℕ
raised v a = 10 ^ a * v ^ 400

right : ℕ → ℕ → Bool
right i a = fits (raised (suc i)) (127 ^ 400) a

whole : T (every right 0 velocities0)
unfolding right raised
whole = tt

-- a is the largest whole number with 10^a * v^400 <= 127^400
pub velocity-largest : (v : ℕ) → 1 ≤ v → v ≤ 127 → Largest (λ (a : ℕ). 10 ^ a * v ^ 400 ≤ 127 ^ 400) (cb_of v)
unfolding cb_of right raised
velocity-largest zero h k = absurd (not-suc-le-zero h)
velocity-largest (suc i) h k =
    largest (raised (suc i)) (127 ^ 400) (cb_of (suc i)) (λ x y l. mul-le-mul_right (suc i ^ 400) (pow-le-pow_right {n = 10} (lit< tt) l)) (at right velocities0 whole i k)
