-- Signed code by reflection: an expression over bounded variables, at one width. One test, `ok`, computes that no operation in it leaves the width.
-- `fits` then answers what each operation asks, and `back` what the local holds: both at the goal as the borrow checker leaves it.
use Prim.Native.Nat.{ℕ, ◌^◌, ◌+◌, ◌*◌, ◌/◌, ◌<◌}
use lib.IntN.{ℤ, pos, ◌+ℤ◌, ◌-ℤ◌, ◌*ℤ◌, nat_abs}
use mir.Syntax.{Width}
use mathlib.Core.List.{List}
use lib.ListN.{get_or}
use lib.Signed.{shr_z, quot_z}
use mathlib.Core.Bool.{Bool, ◌&&◌}
use lib.Dec.{ltb, T, ltb→lt}
use mir.Val.{hbits, to_z, of_z, SFits}
use lib.Ieee.Fits.{and_l, and_r}
use mathlib.Core.Path.{◌≡◌, refl, sym, ap₂, ap, ◌∙◌, subst}
use mir.Facts.{to_z-of_z}
use Rattle.arith.specs.Within.{Within}
use Rattle.arith.proofs.WithinLaws.{w-lit, w-add, w-sub, w-mul, w_shr, w-quot, w_fits}

-- an expression: variables and whole numbers under the operations of signed code
pub data E : Type 0 where
  var : ℕ → E
  from : Width → ℕ → E  -- a variable of another width, cast to this one
  lit : ℤ → E
  add sub mul : E → E → E
  shr quot : E → ℕ → E  -- a shift by so many digits; a division, toward zero, by a positive number

-- a variable: its value, and a bound that holds of it
pub record Var : Type 0 where
  pub value : ℤ
  pub size : ℕ
  pub held : Within value size

-- a variable of a bound that is at hand
abbrev pub given : {z : ℤ} {n : ℕ} → Within z n → Var
given {z} {n} h = record { value = z; size = n; held = h }

-- the variable past the end of the list: 0
abbrev none : Var
none = given (w-lit (pos 0))

-- the whole number that an expression says
abbrev pub val : E → List Var → ℤ
val (var i) ρ = (get_or ρ i none).value
val (from v i) ρ = (get_or ρ i none).value
val (lit z) ρ = z
val (add a b) ρ = val a ρ +ℤ val b ρ
val (sub a b) ρ = val a ρ -ℤ val b ρ
val (mul a b) ρ = val a ρ *ℤ val b ρ
val (shr a k) ρ = shr_z (val a ρ) (2 ^ k)
val (quot a d) ρ = quot_z (val a ρ) (pos d)

-- a bound on its magnitude, from the bounds of its variables
abbrev pub bound : E → List Var → ℕ
bound (var i) ρ = (get_or ρ i none).size
bound (from v i) ρ = (get_or ρ i none).size
bound (lit z) ρ = nat_abs z
bound (add a b) ρ = bound a ρ + bound b ρ
bound (sub a b) ρ = bound a ρ + bound b ρ
bound (mul a b) ρ = bound a ρ * bound b ρ
bound (shr a k) ρ = bound a ρ / 2 ^ k + 1
bound (quot a d) ρ = bound a ρ / d

module _ (w : Width) where
  -- the number that the operation gives, of operands that are read back from their bits
  abbrev pub raw : E → List Var → ℤ
  raw (var i) ρ = (get_or ρ i none).value
  raw (from v i) ρ = to_z v (of_z v (get_or ρ i none).value)
  raw (lit z) ρ = z
  raw (add a b) ρ = to_z w (of_z w (raw a ρ)) +ℤ to_z w (of_z w (raw b ρ))
  raw (sub a b) ρ = to_z w (of_z w (raw a ρ)) -ℤ to_z w (of_z w (raw b ρ))
  raw (mul a b) ρ = to_z w (of_z w (raw a ρ)) *ℤ to_z w (of_z w (raw b ρ))
  raw (shr a k) ρ = shr_z (to_z w (of_z w (raw a ρ))) (2 ^ k)
  raw (quot a d) ρ = quot_z (to_z w (of_z w (raw a ρ))) (pos d)

  -- the test: the bound of each part is below half the width's power
  abbrev pub ok : E → List Var → Bool
  ok (var i) ρ = ltb (bound (var i) ρ) (2 ^ hbits w)
  ok (from v i) ρ = ltb (bound (from v i) ρ) (2 ^ hbits v) && ltb (bound (from v i) ρ) (2 ^ hbits w)
  ok (lit z) ρ = ltb (nat_abs z) (2 ^ hbits w)
  ok (add a b) ρ = ok a ρ && ok b ρ && ltb (bound (add a b) ρ) (2 ^ hbits w)
  ok (sub a b) ρ = ok a ρ && ok b ρ && ltb (bound (sub a b) ρ) (2 ^ hbits w)
  ok (mul a b) ρ = ok a ρ && ok b ρ && ltb (bound (mul a b) ρ) (2 ^ hbits w)
  ok (shr a k) ρ = ok a ρ && ltb (bound (shr a k) ρ) (2 ^ hbits w)
  ok (quot a d) ρ = ok a ρ && ltb (bound (quot a d) ρ) (2 ^ hbits w)

pub within : (e : E) (ρ : List Var) → Within (val e ρ) (bound e ρ)
within (var i) ρ = (get_or ρ i none).held
within (from v i) ρ = (get_or ρ i none).held
within (lit z) ρ = w-lit z
within (add a b) ρ = w-add (within a ρ) (within b ρ)
within (sub a b) ρ = w-sub (within a ρ) (within b ρ)
within (mul a b) ρ = w-mul (within a ρ) (within b ρ)
within (shr a k) ρ = w_shr k (within a ρ)
within (quot a d) ρ = w-quot d (within a ρ)

-- the test of an operation on two operands, in parts
left : (a b c : Bool) → T (a && b && c) → T a
left a b c t = and_l a b (and_l (a && b) c t)

right : (a b c : Bool) → T (a && b && c) → T b
right a b c t = and_r a b (and_l (a && b) c t)

last : (a b : Bool) (m n : ℕ) → T (a && b && ltb m n) → m < n
last a b m n t = ltb→lt m n (and_r (a && b) (ltb m n) t)

last1 : (a : Bool) (m n : ℕ) → T (a && ltb m n) → m < n
last1 a m n t = ltb→lt m n (and_r a (ltb m n) t)

module _ (w : Width) (ρ : List Var) where
  top : (e : E) → T (ok w e ρ) → bound e ρ < 2 ^ hbits w
  top (var i) t = ltb→lt (bound (var i) ρ) (2 ^ hbits w) t
  top (from v i) t = last1 (ltb (bound (from v i) ρ) (2 ^ hbits v)) (bound (from v i) ρ) (2 ^ hbits w) t
  top (lit z) t = ltb→lt (nat_abs z) (2 ^ hbits w) t
  top (add a b) t = last (ok w a ρ) (ok w b ρ) (bound a ρ + bound b ρ) (2 ^ hbits w) t
  top (sub a b) t = last (ok w a ρ) (ok w b ρ) (bound a ρ + bound b ρ) (2 ^ hbits w) t
  top (mul a b) t = last (ok w a ρ) (ok w b ρ) (bound a ρ * bound b ρ) (2 ^ hbits w) t
  top (shr a k) t = last1 (ok w a ρ) (bound (shr a k) ρ) (2 ^ hbits w) t
  top (quot a d) t = last1 (ok w a ρ) (bound (quot a d) ρ) (2 ^ hbits w) t

  fits-of : (e : E) → T (ok w e ρ) → raw w e ρ ≡ val e ρ → SFits w (raw w e ρ)
  fits-of e t q = subst (SFits w) (sym q) (w_fits w (within e ρ) (top e t))

  back-of : (e : E) → T (ok w e ρ) → raw w e ρ ≡ val e ρ → to_z w (of_z w (raw w e ρ)) ≡ val e ρ
  back-of e t q = to_z-of_z (fits-of e t q) ∙ q

  -- what the code computes is what the expression says
  same : (e : E) → T (ok w e ρ) → raw w e ρ ≡ val e ρ
  same (var i) t = refl
  same (from v i) t =
      to_z-of_z (w_fits v (get_or ρ i none).held (ltb→lt (get_or ρ i none).size (2 ^ hbits v) (and_l (ltb (bound (from v i) ρ) (2 ^ hbits v)) (ltb (bound (from v i) ρ) (2 ^ hbits w)) t)))
  same (lit z) t = refl
  same (add a b) t =
      let s = left (ok w a ρ) (ok w b ρ) (ltb (bound a ρ + bound b ρ) (2 ^ hbits w)) t in
      let u = right (ok w a ρ) (ok w b ρ) (ltb (bound a ρ + bound b ρ) (2 ^ hbits w)) t in
      ap₂ (λ (x y : ℤ). x +ℤ y) (back-of a s (same a s)) (back-of b u (same b u))
  same (sub a b) t =
      let s = left (ok w a ρ) (ok w b ρ) (ltb (bound a ρ + bound b ρ) (2 ^ hbits w)) t in
      let u = right (ok w a ρ) (ok w b ρ) (ltb (bound a ρ + bound b ρ) (2 ^ hbits w)) t in
      ap₂ (λ (x y : ℤ). x -ℤ y) (back-of a s (same a s)) (back-of b u (same b u))
  same (mul a b) t =
      let s = left (ok w a ρ) (ok w b ρ) (ltb (bound a ρ * bound b ρ) (2 ^ hbits w)) t in
      let u = right (ok w a ρ) (ok w b ρ) (ltb (bound a ρ * bound b ρ) (2 ^ hbits w)) t in
      ap₂ (λ (x y : ℤ). x *ℤ y) (back-of a s (same a s)) (back-of b u (same b u))
  same (shr a k) t =
      let s = and_l (ok w a ρ) (ltb (bound (shr a k) ρ) (2 ^ hbits w)) t in
      ap (λ (x : ℤ). shr_z x (2 ^ k)) (back-of a s (same a s))
  same (quot a d) t =
      let s = and_l (ok w a ρ) (ltb (bound (quot a d) ρ) (2 ^ hbits w)) t in
      ap (λ (x : ℤ). quot_z x (pos d)) (back-of a s (same a s))

  -- what each operation asks
  pub fits : (e : E) → T (ok w e ρ) → SFits w (raw w e ρ)
  fits e t = fits-of e t (same e t)

  -- the local that holds it, read back
  pub back : (e : E) → T (ok w e ρ) → to_z w (of_z w (raw w e ρ)) ≡ val e ρ
  back e t = back-of e t (same e t)
