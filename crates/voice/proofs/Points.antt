-- What the four points promise.
use Prim.Native.Nat.{ℕ, suc, ◌+◌, ◌*◌, ◌-◌, ◌/◌, ◌<◌, ◌≤◌}
use mathlib.Core.Path.{◌≡◌, refl, ap, ap₂, sym, ◌∙◌, subst}
use mathlib.Core.Bool.{Bool, true, false, cond, ◌&&◌}
use mathlib.Core.List.{[], ◌∷◌}
use mathlib.Core.Logic.{⊎_elim}
use native.Mathlib.Omega.{arith}
use native.Mathlib.Nat.{le_of_lt, mul_comm, mul-le-mul, mul-le-mul_left}
use borrow.Author.Tests.{leb-true, le-ltb}
use lib.Dec.{leb, lit≤}
use lib.IntN.{ℤ, pos, negsuc, neg_ℤ, sub_ℕ, ◌+ℤ◌, ◌-ℤ◌, ◌*ℤ◌, +ℤ_idr, +ℤ_idl, +ℤ_invr, *ℤ_comm, *ℤ-zero, zero-*ℤ}
use Rattle.arith.specs.Floors.{floor_z}
use Rattle.arith.specs.Holds.{held_to, between_z}
use Rattle.arith.proofs.FloorsLaws.{sub-pos, sub-neg, neg-suc}
use Rattle.arith.proofs.HoldsLaws.{clamp-in}
use Rattle.arith.proofs.Linear.{var, add, sub, times, linear}
use Rattle.arith.proofs.RingLaws.{mul-mul-nat}
use Rattle.arith.proofs.WithinLaws.{w-nat, w-lit, w_le, w-add, w-sub, w-mul}
use Rattle.voice.specs.Reading.{interpolated}
use Rattle.voice.specs.Points.{Sample16, ReadsPoint, ReadsLine, ReadsEqual, SumFits}
use Rattle.voice.specs.Internal.Reading.{risen}
use Rattle.voice.proofs.FramesLaws.{and_first}
use Rattle.voice.proofs.MotionLaws.{split}
use Rattle.voice.proofs.ReadingLaws.{interpolated-is}

-- ---- 16-bit numbers
second : (a b : Bool) → (a && b) ≡ true → b ≡ true
second true b e = e
second false b e = absurd (subst (λ (x : Bool). cond x ⊥ (Unit {0})) e tt)

-- a 16-bit number is held as it is
held16 : (x : ℤ) → Sample16 x → held_to (negsuc 32767) (pos 32767) x ≡ x
unfolding between_z
held16 (pos a) h = clamp-in (negsuc 32767) (pos 32767) (pos a) refl (le-ltb 32767 a (leb-true a 32767 h))
held16 (negsuc a) h = clamp-in (negsuc 32767) (pos 32767) (negsuc a) (le-ltb 32767 a (leb-true a 32767 (and_first (leb a 32767) true h))) refl

-- the last of 16 bits, up and down
top16 : (a : ℕ) → Sample16 (pos a) → a ≤ 32767
unfolding between_z
top16 a h = leb-true a 32767 h

low16 : (a : ℕ) → Sample16 (negsuc a) → a ≤ 32767
unfolding between_z
low16 a h = leb-true a 32767 (and_first (leb a 32767) true h)

-- ---- numbers as n - 32,768
lift : ℤ → ℕ
lift (pos a) = a + 32768
lift (negsuc a) = 32767 - a

lift-is : (x : ℤ) → Sample16 x → x ≡ sub_ℕ (lift x) 32768
unfolding lift
lift-is (pos a) h = sym (sub-pos (a + 32768) 32768 (omega arith) ∙ ap pos (omega arith))
lift-is (negsuc a) h = let k = low16 a h in sym (sub-neg (32767 - a) 32768 (omega arith) ∙ ap negsuc (omega arith))

-- below 65,536 it is held as it is
held_up : (n : ℕ) → n < 65536 → held_to (negsuc 32767) (pos 32767) (sub_ℕ n 32768) ≡ sub_ℕ n 32768
held_up n h =
    ⊎_elim
    (λ (l : n < 32768).
    subst (λ (z : ℤ). held_to (negsuc 32767) (pos 32767) z ≡ z) (sym (sub-neg n 32768 l))
    (clamp-in (negsuc 32767) (pos 32767) (negsuc (32768 - suc n)) (le-ltb 32767 (32768 - suc n) (omega arith)) refl))
    (λ (g : 32768 ≤ n).
    subst (λ (z : ℤ). held_to (negsuc 32767) (pos 32767) z ≡ z) (sym (sub-pos n 32768 g))
    (clamp-in (negsuc 32767) (pos 32767) (pos (n - 32768)) refl (le-ltb 32767 (n - 32768) (omega arith))))
    (split n 32768)

-- a 16-bit number is below it
under : (n : ℕ) → Sample16 (sub_ℕ n 32768) → n < 65536
under n h =
    ⊎_elim (λ (l : n < 32768). omega arith)
    (λ (g : 32768 ≤ n). let k = top16 (n - 32768) (subst Sample16 (sub-pos n 32768 g) h) in omega arith)
    (split n 32768)

-- m more
move_up : (n m : ℕ) → sub_ℕ n 32768 +ℤ pos m ≡ sub_ℕ (n + m) 32768
move_up n m =
    ⊎_elim
    (λ (l : n < 32768).
    ap (λ (z : ℤ). z +ℤ pos m) (sub-neg n 32768 l)
    ∙ ⊎_elim
    (λ (i : n + m < 32768). sub-neg m (suc (32768 - suc n)) (omega arith) ∙ ap negsuc (omega arith) ∙ sym (sub-neg (n + m) 32768 i))
    (λ (j : 32768 ≤ n + m). sub-pos m (suc (32768 - suc n)) (omega arith) ∙ ap pos (omega arith) ∙ sym (sub-pos (n + m) 32768 j))
    (split (n + m) 32768))
    (λ (g : 32768 ≤ n).
    ap (λ (z : ℤ). z +ℤ pos m) (sub-pos n 32768 g) ∙ ap pos (omega arith) ∙ sym (sub-pos (n + m) 32768 (omega arith)))
    (split n 32768)

-- m + 1 less
move_down : (n m : ℕ) → suc m ≤ n → sub_ℕ n 32768 +ℤ negsuc m ≡ sub_ℕ (n - suc m) 32768
move_down n m h =
    ⊎_elim
    (λ (l : n < 32768).
    ap (λ (z : ℤ). z +ℤ negsuc m) (sub-neg n 32768 l) ∙ ap negsuc (omega arith) ∙ sym (sub-neg (n - suc m) 32768 (omega arith)))
    (λ (g : 32768 ≤ n).
    ap (λ (z : ℤ). z +ℤ negsuc m) (sub-pos n 32768 g)
    ∙ ⊎_elim
    (λ (i : n - 32768 < suc m). sub-neg (n - 32768) (suc m) i ∙ ap negsuc (omega arith) ∙ sym (sub-neg (n - suc m) 32768 (omega arith)))
    (λ (j : suc m ≤ n - 32768). sub-pos (n - 32768) (suc m) j ∙ ap pos (omega arith) ∙ sym (sub-pos (n - suc m) 32768 (omega arith)))
    (split (n - 32768) (suc m)))
    (split n 32768)

-- and that is not below -32,768
over : (n m : ℕ) → Sample16 (sub_ℕ n 32768 +ℤ negsuc m) → suc m ≤ n
over n m h =
    ⊎_elim (λ (l : n < suc m). absurd (no l)) (λ (g : suc m ≤ n). g) (split n (suc m))
  where
    no : n < suc m → ⊥
    no l =
        ⊎_elim
        (λ (i : n < 32768).
        let k = low16 (suc (32768 - suc n + m)) (subst Sample16 (ap (λ (z : ℤ). z +ℤ negsuc m) (sub-neg n 32768 i)) h) in
        never n m k l i)
        (λ (j : 32768 ≤ n).
        let k = low16 (suc m - suc (n - 32768)) (subst Sample16 (ap (λ (z : ℤ). z +ℤ negsuc m) (sub-pos n 32768 j) ∙ sub-neg (n - 32768) (suc m) (omega arith)) h) in
        nor n m k l j)
        (split n 32768)
      where
        never : (n m : ℕ) → suc (32768 - suc n + m) ≤ 32767 → n < suc m → n < 32768 → ⊥
        never n m k l i = omega arith

        nor : (n m : ℕ) → suc m - suc (n - 32768) ≤ 32767 → n < suc m → 32768 ≤ n → ⊥
        nor n m k l j = omega arith

-- ---- at a sample
pub reads-point : ReadsPoint
reads-point x0 x1 x2 x3 h =
    sym (interpolated-is x0 x1 x2 x3 0)
    ∙ ap (λ (z : ℤ). held_to (negsuc 32767) (pos 32767) z) (ap (λ (z : ℤ). x1 +ℤ floor_z z 137438953472) (nothing (x1 -ℤ x0) (x2 -ℤ x1) (x3 -ℤ x2)) ∙ +ℤ_idr x1)
    ∙ held16 x1 h
  where
    nothing : (a b c : ℤ) → risen a b c (pos 0) ≡ pos 0
    nothing a b c =
        *ℤ-zero (((c -ℤ b -ℤ (b -ℤ a)) *ℤ pos 0 +ℤ (b -ℤ a -ℤ (c -ℤ b -ℤ (b -ℤ a))) *ℤ pos 4096) *ℤ pos 0 +ℤ (a +ℤ b) *ℤ pos 16777216)

-- ---- on a line
-- a quotient whose both numbers are 2^25 times as large
scaled : (z : ℤ) → floor_z (z *ℤ pos 33554432) 137438953472 ≡ floor_z z 4096
scaled (pos n) = ap pos (omega arith)
scaled (negsuc n) = ap (λ (z : ℤ). floor_z z 137438953472) (neg-suc (suc n * 33554432) (omega arith)) ∙ ap negsuc (omega arith)

-- equal differences leave the first term alone
straight : (d : ℤ) (q : ℕ) → risen d d d (pos q) ≡ d *ℤ pos q *ℤ pos 33554432
straight d q =
    ap (λ (z : ℤ). ((z *ℤ pos q +ℤ (d -ℤ d -ℤ z) *ℤ pos 4096) *ℤ pos q +ℤ (d +ℤ d) *ℤ pos 16777216) *ℤ pos q) (linear (sub (sub (var 0) (var 0)) (sub (var 0) (var 0))) (sub (var 0) (var 0)) (d ∷ []) refl ∙ +ℤ_invr d)
    ∙ ap (λ (z : ℤ). ((pos 0 *ℤ pos q +ℤ z *ℤ pos 4096) *ℤ pos q +ℤ (d +ℤ d) *ℤ pos 16777216) *ℤ pos q) (+ℤ_idr (d -ℤ d) ∙ +ℤ_invr d)
    ∙ ap (λ (z : ℤ). ((z +ℤ pos 0) *ℤ pos q +ℤ (d +ℤ d) *ℤ pos 16777216) *ℤ pos q) (zero-*ℤ (pos q))
    ∙ ap (λ (z : ℤ). (z +ℤ (d +ℤ d) *ℤ pos 16777216) *ℤ pos q) (zero-*ℤ (pos q))
    ∙ ap (λ (z : ℤ). z *ℤ pos q) (+ℤ_idl ((d +ℤ d) *ℤ pos 16777216))
    ∙ ap (λ (z : ℤ). z *ℤ pos 16777216 *ℤ pos q) (linear (add (var 0) (var 0)) (times 2 (var 0)) (d ∷ []) refl ∙ *ℤ_comm (pos 2) d)
    ∙ ap (λ (z : ℤ). z *ℤ pos q) (mul-mul-nat d 2 16777216)
    ∙ mul-mul-nat d 33554432 q
    ∙ ap (λ (n : ℕ). d *ℤ pos n) (mul_comm 33554432 q)
    ∙ sym (mul-mul-nat d q 33554432)

-- a part of the way up, and of the way down, is not more than the way
part_up : (m q : ℕ) → q < 4096 → m * q / 4096 ≤ m
part_up m q h = let k = mul-le-mul_left m (le_of_lt h) in omega arith

part-down : (m q : ℕ) → q < 4096 → 0 < m * q → (m * q - 1) / 4096 < m
part-down m q h p = let k = mul-le-mul_left m (le_of_lt h) in omega arith

-- so the line stays among 16-bit numbers
line-held : (n : ℕ) (d : ℤ) (q : ℕ) → n < 65536 → q < 4096 → Sample16 (sub_ℕ n 32768 +ℤ d)
    → held_to (negsuc 32767) (pos 32767) (sub_ℕ n 32768 +ℤ floor_z (d *ℤ pos q) 4096) ≡ sub_ℕ n 32768 +ℤ floor_z (d *ℤ pos q) 4096
line-held n (pos m) q h k s =
    let top = under (n + m) (subst Sample16 (move_up n m) s) in
    subst (λ (z : ℤ). held_to (negsuc 32767) (pos 32767) z ≡ z) (sym (move_up n (m * q / 4096))) (held_up (n + m * q / 4096) (omega (arith, top, part_up m q k)))
line-held n (negsuc m) q h k s =
    ⊎_elim
    (λ (l : suc m * q < 1).
    let e : suc m * q ≡ 0 = omega arith in
    subst (λ (z : ℤ). held_to (negsuc 32767) (pos 32767) z ≡ z) (sym (ap (λ (a : ℕ). sub_ℕ n 32768 +ℤ floor_z (neg_ℤ (pos a)) 4096) e ∙ +ℤ_idr (sub_ℕ n 32768))) (held_up n h))
    (λ (g : 1 ≤ suc m * q).
    let r = (suc m * q - 1) / 4096 in
    let low = part-down (suc m) q k g in
    let room : suc r ≤ n = omega (arith, low, over n m s) in
    subst (λ (z : ℤ). held_to (negsuc 32767) (pos 32767) z ≡ z) (sym (ap (λ (z : ℤ). sub_ℕ n 32768 +ℤ floor_z z 4096) (neg-suc (suc m * q) g) ∙ move_down n r room)) (held_up (n - suc r) (omega arith)))
    (split (suc m * q) 1)

pub reads-line : ReadsLine
reads-line x d q h k s =
    sym (interpolated-is (x -ℤ d) x (x +ℤ d) (x +ℤ d +ℤ d) q)
    ∙ ap (λ (z : ℤ). held_to (negsuc 32767) (pos 32767) (x +ℤ z)) flat
    ∙ subst (λ (y : ℤ). held_to (negsuc 32767) (pos 32767) (y +ℤ floor_z (d *ℤ pos q) 4096) ≡ y +ℤ floor_z (d *ℤ pos q) 4096) (sym (lift-is x k))
    (line-held (lift x) d q (under (lift x) (subst Sample16 (lift-is x k) k)) h (subst (λ (y : ℤ). Sample16 (y +ℤ d)) (lift-is x k) s))
  where
    one : x -ℤ (x -ℤ d) ≡ d
    one = linear (sub (var 0) (sub (var 0) (var 1))) (add (sub (var 0) (var 0)) (var 1)) (x ∷ d ∷ []) refl ∙ ap (λ (z : ℤ). z +ℤ d) (+ℤ_invr x) ∙ +ℤ_idl d

    two : x +ℤ d -ℤ x ≡ d
    two = linear (sub (add (var 0) (var 1)) (var 0)) (add (sub (var 0) (var 0)) (var 1)) (x ∷ d ∷ []) refl ∙ ap (λ (z : ℤ). z +ℤ d) (+ℤ_invr x) ∙ +ℤ_idl d

    three : x +ℤ d +ℤ d -ℤ (x +ℤ d) ≡ d
    three =
        linear (sub (add (add (var 0) (var 1)) (var 1)) (add (var 0) (var 1))) (add (sub (var 0) (var 0)) (var 1)) (x ∷ d ∷ []) refl
        ∙ ap (λ (z : ℤ). z +ℤ d) (+ℤ_invr x)
        ∙ +ℤ_idl d

    flat : floor_z (risen (x -ℤ (x -ℤ d)) (x +ℤ d -ℤ x) (x +ℤ d +ℤ d -ℤ (x +ℤ d)) (pos q)) 137438953472 ≡ floor_z (d *ℤ pos q) 4096
    flat =
        ap₂ (λ (a b : ℤ). floor_z (risen a b (x +ℤ d +ℤ d -ℤ (x +ℤ d)) (pos q)) 137438953472) one two
        ∙ ap (λ (c : ℤ). floor_z (risen d d c (pos q)) 137438953472) three
        ∙ ap (λ (z : ℤ). floor_z z 137438953472) (straight d q)
        ∙ scaled (d *ℤ pos q)

-- ---- four equal points
pub reads-equal : ReadsEqual
reads-equal x q h s =
    let e = +ℤ_idr x in
    let same : interpolated (x -ℤ pos 0) x (x +ℤ pos 0) (x +ℤ pos 0 +ℤ pos 0) q ≡ interpolated x x x x q = rw (e, e) refl in
    sym same
    ∙ reads-line x (pos 0) q h s (subst Sample16 (sym e) s)
    ∙ ap (λ (z : ℤ). x +ℤ floor_z z 4096) (zero-*ℤ (pos q))
    ∙ e

-- ---- the sum
pub sum_fits : SumFits
sum_fits x0 x1 x2 x3 q h a b c d =
    let t = w-lit (pos 2) in
    let l = le_of_lt h in
    let square : 4096 * q * q ≤ 68719476736 = mul-le-mul (mul-le-mul_left 4096 l) l in
    let cube : q * q * q ≤ 68719476736 = mul-le-mul (mul-le-mul l l) l in
    w_le
    (w-add
    (w-add (w-add (w-mul (w-mul t b) (w-lit (pos 68719476736))) (w-mul (w-sub c a) (w-nat {m = 16777216 * q} {n = 68719476736} (omega arith))))
    (w-mul (w-sub (w-add (w-sub (w-mul t a) (w-mul (w-lit (pos 5)) b)) (w-mul (w-lit (pos 4)) c)) d) (w-nat square)))
    (w-mul (w-add (w-sub (w-sub (w-mul (w-lit (pos 3)) b) a) (w-mul (w-lit (pos 3)) c)) d) (w-nat cube)))
    (lit≤ tt)
