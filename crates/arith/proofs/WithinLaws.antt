-- Laws that build a bound `Within z n` along an expression, so that a need `SFits w z` is one line.
use mathlib.Core.Path.{◌≡◌, refl}
use Prim.Native.Nat.{ℕ, zero, suc, ◌*◌, ◌+◌, ◌-◌, ◌≤◌, ◌<◌, ◌^◌, ◌/◌, zero-le}
use lib.IntN.{pos, neg_ℤ, nat_abs, ℤ, negsuc, ◌*ℤ◌, sub_ℕ, ◌+ℤ◌, ◌-ℤ◌}
use mathlib.Core.Bool.{Bool, true, false, cond}
use native.Mathlib.Omega.{arith}
use lib.Dec.{ltb}
use native.Mathlib.Nat.{le_refl, le_trans, le_of_eq, mul-le-mul, mul_comm, div-le_of_le-mul, div-lt_iff_lt-mul, lt_of_le_of_lt, le_of_lt, zero-lt-suc, div-zero, div-mul-le_self, le-div_iff_mul-le, le-suc}
use lib.Signed.{mag, quot_z, shr_z}
use mir.Syntax.{Width}
use mir.Val.{SFits, hbits, to_z, of_z}
use mir.Facts.{to_z-of_z}
use Rattle.arith.specs.Within.{Within}
use Rattle.arith.specs.Floors.{floor_z}

abs_neg : (n : ℕ) → nat_abs (neg_ℤ (pos n)) ≡ n
abs_neg zero = refl
abs_neg (suc n) = refl

abs-negℤ : (z : ℤ) → nat_abs (neg_ℤ z) ≡ nat_abs z
abs-negℤ (pos n) = abs_neg n
abs-negℤ (negsuc n) = refl

abs-mul : (a b : ℤ) → nat_abs (a *ℤ b) ≡ nat_abs a * nat_abs b
abs-mul (pos a) (pos b) = refl
abs-mul (pos a) (negsuc b) = abs_neg (a * suc b)
abs-mul (negsuc a) (pos b) = abs_neg (suc a * b)
abs-mul (negsuc a) (negsuc b) = refl

-- a - (b + 1), whichever way the test goes
abs-sub : (a b : ℕ) → nat_abs (sub_ℕ a (suc b)) ≤ a + suc b
abs-sub a b = go (ltb a (suc b))
  where
    go : (t : Bool) → nat_abs (cond t (negsuc (suc b - suc a)) (pos (a - suc b))) ≤ a + suc b
    go true = omega arith
    go false = omega arith

abs-add : (a b : ℤ) → nat_abs (a +ℤ b) ≤ nat_abs a + nat_abs b
abs-add (pos a) (pos b) = le_refl (a + b)
abs-add (pos a) (negsuc b) = abs-sub a b
abs-add (negsuc a) (pos b) = omega (arith, abs-sub b a)
abs-add (negsuc a) (negsuc b) = omega arith

mag-abs : (z : ℤ) → mag z ≤ nat_abs z
mag-abs (pos a) = le_refl a
mag-abs (negsuc a) = omega arith

pub w-lit : (z : ℤ) → Within z (nat_abs z)
w-lit z = record { within = le_refl (nat_abs z) }

pub w_le : {z : ℤ} {m n : ℕ} → Within z m → m ≤ n → Within z n
w_le h k = record { within = le_trans h.within k }

pub w-neg : {a : ℤ} {m : ℕ} → Within a m → Within (neg_ℤ a) m
w-neg {a} h = record { within = le_trans (le_of_eq (abs-negℤ a)) h.within }

pub w-add : {a b : ℤ} {m n : ℕ} → Within a m → Within b n → Within (a +ℤ b) (m + n)
w-add {a} {b} h k = record { within = omega (arith, abs-add a b, h.within, k.within) }

pub w-sub : {a b : ℤ} {m n : ℕ} → Within a m → Within b n → Within (a -ℤ b) (m + n)
w-sub h k = w-add h (w-neg k)

pub w-mul : {a b : ℤ} {m n : ℕ} → Within a m → Within b n → Within (a *ℤ b) (m * n)
w-mul {a} {b} h k = record { within = le_trans (le_of_eq (abs-mul a b)) (mul-le-mul h.within k.within) }

-- floor(z / d) is from -b to b where b * d is at least |z|
pub w-floor-by : {z : ℤ} {n : ℕ} (b d : ℕ) → zero < d → n ≤ b * d → Within z n → Within (floor_z z d) b
w-floor-by {z = pos a} b d p e h = record { within = div-le_of_le-mul d (le_trans h.within (le_trans e (le_of_eq (mul_comm b d)))) }
w-floor-by {z = negsuc a} b d p e h = record { within = (div-lt_iff_lt-mul p).1 (le_trans h.within e) }

-- a bound below the width's half: the value fits
pub w_fits : {z : ℤ} {n : ℕ} (w : Width) → Within z n → n < 2 ^ hbits w → SFits w z
w_fits {z} w h l = record { sfits = lt_of_le_of_lt (le_trans (mag-abs z) h.within) l }

-- what fits a width is within half its power
pub w-of : {z : ℤ} (w : Width) → SFits w z → Within z (2 ^ hbits w)
w-of {z = pos a} w h = record { within = le_of_lt h.sfits }
w-of {z = negsuc a} w h = record { within = h.sfits }

-- a signed local is read back from its bits
pub w-back : {z : ℤ} {n : ℕ} (w : Width) → Within z n → n < 2 ^ hbits w → to_z w (of_z w z) ≡ z
w-back w h l = to_z-of_z (w_fits w h l)

div-le-div : {m n : ℕ} (d : ℕ) → m ≤ n → m / d ≤ n / d
div-le-div {m} {n} zero h = le_trans (le_of_eq (div-zero m)) zero-le
div-le-div {m} {n} (suc d) h = (le-div_iff_mul-le (zero-lt-suc d)).1 (le_trans (div-mul-le_self m (suc d)) h)

pub w-quot : {z : ℤ} {n : ℕ} (d : ℕ) → Within z n → Within (quot_z z (pos d)) (n / d)
w-quot {z = pos a} {n} d h = record { within = div-le-div d h.within }
w-quot {z = negsuc a} {n} d h = record { within = le_trans (le_of_eq (abs_neg (suc a / d))) (div-le-div d h.within) }

pub w_shr : {z : ℤ} {n : ℕ} (k : ℕ) → Within z n → Within (shr_z z (2 ^ k)) (n / 2 ^ k + 1)
w_shr {z = pos a} {n} k h = record { within = omega (arith, div-le-div (2 ^ k) h.within) }
w_shr {z = negsuc a} {n} k h = record { within = omega (arith, div-le-div {m = a} {n = n} (2 ^ k) (le_trans (le-suc a) h.within)) }

pub w-nat : {m n : ℕ} → m ≤ n → Within (pos m) n
w-nat h = record { within = h }
