-- A whole number as an `f32`, times 2 ^ -t: nothing is rounded, up to 2 ^ 24.
use mathlib.Core.Path.{◌≡◌, refl, ap, ◌∙◌, sym}
use mathlib.Core.Bool.{Bool, true, false}
use lib.Ieee.{unlike, Float, nan, inf, fin, binary32, up, down, round, mul, of_int, in_float}
use Prim.Native.Nat.{ℕ, suc, ◌*◌, ◌^◌, ◌+◌, ◌≤◌, ◌<◌}
use native.Mathlib.Nat.{mul_assoc, mul-pos, mul-one, lt_of_lt_of_le, eq-or-lt_of_le, le_trans}
use lib.IntN.{negsuc, ℤ, pos, nat_abs}
use lib.Pow.{pow_pos, pow_mono, pow-add, shl_lt}
use lib.Ieee.Exact.{HasValue, round_exact}
use lib.Ieee.Fits.{down_pos}
use lib.Ieee.Scale.{round_same}
use mathlib.Core.Logic.{◌⊎◌, inl, inr}
use native.Mathlib.Omega.{arith}
use lib.Dec.{lit<, lit≤, T, le→leb, lt→ltb}
use lib.Ieee.Back.{round_whole}
use Rattle.arith.specs.Floats.{is_neg}
use Rattle.arith.specs.Within.{Within}

unlike-false : (s : Bool) → unlike s false ≡ s
unlike-false true = refl
unlike-false false = refl

-- the product is the float nearest to n / 2 ^ (t + 1)
mul-down : (x : Float) (s : Bool) (n t : ℕ) → HasValue x s n 1 → mul binary32 x (fin false 1 (negsuc t)) ≡ round binary32 s n (2 ^ suc t)
unfolding mul
mul-down nan s n t h = absurd h
mul-down (inf b) s n t h = absurd h
mul-down (fin b m e) s n t h =
    ap (λ (c : Bool). round binary32 (unlike c false) (m * up e * 1) (down e * 2 ^ suc t)) h.0
    ∙ ap (λ (c : Bool). round binary32 c (m * up e * 1) (down e * 2 ^ suc t)) (unlike-false s)
    ∙ round_same binary32 s (m * up e * 1) (down e * 2 ^ suc t) n (2 ^ suc t) (mul-pos (down_pos e) (pow_pos (suc t))) (pow_pos (suc t))
    (ap (λ (k : ℕ). k * 2 ^ suc t) h.1 ∙ mul_assoc n (down e) (2 ^ suc t))

-- which is n / 2 ^ d itself: below 2 ^ 24 with all its digits, and at 2 ^ 24 with one
pub round-down : (s : Bool) (n d j : ℕ) → d + j ≡ 149 → n ≤ 16777216 → HasValue (round binary32 s n (2 ^ d)) s n (2 ^ d)
round-down s n d j e h = go (eq-or-lt_of_le h)
  where
    shifted : (i m : ℕ) → m * 2 ^ i ≡ n → m < 16777216 → i ≤ 24 → HasValue (round binary32 s n (2 ^ d)) s n (2 ^ d)
    shifted i m q l k =
        let whole : 149 ≡ j + d = omega arith in
        round_exact binary32 s n (2 ^ d) m (i + j) (pow_pos d) l
        (lt_of_lt_of_le (shl_lt 24 (i + j) l) (pow_mono {i = 24 + (i + j)} {j = 277} (omega arith)))
        (ap (λ (k : ℕ). n * 2 ^ k) whole ∙ ap (λ (k : ℕ). k * 2 ^ (j + d)) (sym q)
        ∙ simp (pow-add, mul_assoc))

    go : (n ≡ 16777216) ⊎ (n < 16777216) → HasValue (round binary32 s n (2 ^ d)) s n (2 ^ d)
    go (inl x) = shifted 24 1 (sym x) (lit< tt) (lit≤ tt)
    go (inr l) = shifted 0 n (mul-one n) l (lit≤ tt)

abs-of : (k : ℤ) → of_int binary32 k ≡ round binary32 (is_neg k) (nat_abs k) 1
unfolding of_int
abs-of (pos n) = refl
abs-of (negsuc n) = refl

-- k as an f32, times 2 ^ -(t + 1)
pub scaled : (k : ℤ) (t : ℕ) → nat_abs k ≤ 16777216 → mul binary32 (of_int binary32 k) (fin false 1 (negsuc t)) ≡ round binary32 (is_neg k) (nat_abs k) (2 ^ suc t)
scaled k t h = rw (abs-of k) (mul-down (round binary32 (is_neg k) (nat_abs k) 1) (is_neg k) (nat_abs k) t (round_whole binary32 (is_neg k) (nat_abs k) h))

-- what the cast asks
pub in-float : (k : ℤ) (n : ℕ) → Within k n → n ≤ 16777216 → T (in_float binary32 k)
unfolding in_float
in-float (pos a) n h l = le→leb a 16777216 (le_trans h.within l)
in-float (negsuc a) n h l = lt→ltb a 16777216 (le_trans h.within l)
