-- Laws of the reading: its sum as the code works it out, its bound, and four samples that stand side by side.
use Prim.Native.Nat.{ℕ, zero, suc, ◌+◌, ◌*◌, ◌-◌, ◌<◌}
use mathlib.Core.Path.{◌≡◌, refl, ap, ap₂, sym, ◌∙◌}
use mathlib.Core.Bool.{Bool, true, false, cond}
use mathlib.Core.List.{List, [], ◌∷◌}
use native.Mathlib.Omega.{arith}
use lib.Dec.{eqb, lit<, lit≤}
use lib.IntN.{ℤ, pos, negsuc, ◌+ℤ◌, ◌-ℤ◌, ◌*ℤ◌, *ℤ_comm}
use borrow.Author.Tests.{ne_eqb}
use Rattle.arith.specs.Floors.{floor_z}
use Rattle.arith.specs.Holds.{held_to}
use Rattle.arith.specs.Within.{Within}
use Rattle.arith.proofs.RingLaws.{add-mul-Z, mul-mul-nat}
use Rattle.arith.proofs.Linear.{S, var, add, sub, times, linear}
use Rattle.arith.proofs.FloorsLaws.{floor-add}
use Rattle.arith.proofs.HoldsLaws.{held-bound}
use Rattle.arith.proofs.WithinLaws.{w-lit, w_le}
use Rattle.voice.specs.Reading.{sample, before, behind, curve, interpolated, read_at, reading}
use Rattle.voice.specs.Internal.Reading.{risen}
use Rattle.voice.specs.Internal.Stretch.{between}

-- Horner's rule
horner : (one two three : ℤ) (q : ℕ) → ((three *ℤ pos q +ℤ two *ℤ pos 4096) *ℤ pos q +ℤ one *ℤ pos 16777216) *ℤ pos q
    ≡ three *ℤ pos (q * q * q) +ℤ two *ℤ pos (4096 * q * q) +ℤ one *ℤ pos (16777216 * q)
horner one two three q =
    add-mul-Z ((three *ℤ pos q +ℤ two *ℤ pos 4096) *ℤ pos q) (one *ℤ pos 16777216) (pos q)
    ∙ ap₂ (λ (x y : ℤ). x +ℤ y) (upper ∙ lower) (mul-mul-nat one 16777216 q)
  where
    upper : (three *ℤ pos q +ℤ two *ℤ pos 4096) *ℤ pos q *ℤ pos q ≡ (three *ℤ pos (q * q) +ℤ two *ℤ pos (4096 * q)) *ℤ pos q
    upper =
        ap (λ (x : ℤ). x *ℤ pos q)
        (add-mul-Z (three *ℤ pos q) (two *ℤ pos 4096) (pos q)
        ∙ ap₂ (λ (x y : ℤ). x +ℤ y) (mul-mul-nat three q q) (mul-mul-nat two 4096 q))

    lower : (three *ℤ pos (q * q) +ℤ two *ℤ pos (4096 * q)) *ℤ pos q ≡ three *ℤ pos (q * q * q) +ℤ two *ℤ pos (4096 * q * q)
    lower =
        add-mul-Z (three *ℤ pos (q * q)) (two *ℤ pos (4096 * q)) (pos q)
        ∙ ap₂ (λ (x y : ℤ). x +ℤ y) (mul-mul-nat three (q * q) q) (mul-mul-nat two (4096 * q) q)

-- four terms, the first outside and the others turned
turn : (t a b c : ℤ) → t +ℤ a +ℤ b +ℤ c ≡ t +ℤ (c +ℤ b +ℤ a)
turn t a b c =
    linear (add (add (add (var 0) (var 1)) (var 2)) (var 3)) (add (var 0) (add (add (var 3) (var 2)) (var 1))) (t ∷ a ∷ b ∷ c ∷ []) refl

module _ (x0 x1 x2 x3 : ℤ) where
  -- the points
  abbrev points : List ℤ
  points = x0 ∷ x1 ∷ x2 ∷ x3 ∷ []

  -- their differences
  abbrev a : S
  a = sub (var 1) (var 0)

  abbrev b : S
  b = sub (var 2) (var 1)

  abbrev c : S
  c = sub (var 3) (var 2)

  first : x1 -ℤ x0 +ℤ (x2 -ℤ x1) ≡ x2 -ℤ x0
  first = linear (add a b) (sub (var 2) (var 0)) points refl

  third : x3 -ℤ x2 -ℤ (x2 -ℤ x1) -ℤ (x2 -ℤ x1 -ℤ (x1 -ℤ x0)) ≡ pos 3 *ℤ x1 -ℤ x0 -ℤ pos 3 *ℤ x2 +ℤ x3
  third =
      linear (sub (sub c b) (sub b a)) (add (sub (sub (times 3 (var 1)) (var 0)) (times 3 (var 2))) (var 3)) points refl

  second : x2 -ℤ x1 -ℤ (x1 -ℤ x0) -ℤ (x3 -ℤ x2 -ℤ (x2 -ℤ x1) -ℤ (x2 -ℤ x1 -ℤ (x1 -ℤ x0)))
      ≡ pos 2 *ℤ x0 -ℤ pos 5 *ℤ x1 +ℤ pos 4 *ℤ x2 -ℤ x3
  second =
      linear (sub (sub b a) (sub (sub c b) (sub b a))) (sub (add (sub (times 2 (var 0)) (times 5 (var 1))) (times 4 (var 2))) (var 3)) points refl

  -- the sum is 2·Q³ times x1, and the rest as the code works it out
  pub curve-risen : (q : ℕ) → curve x0 x1 x2 x3 q ≡ x1 *ℤ pos 137438953472 +ℤ risen (x1 -ℤ x0) (x2 -ℤ x1) (x3 -ℤ x2) (pos q)
  curve-risen q =
      let t = pos 2 *ℤ x1 *ℤ pos 68719476736 in
      let one = (x2 -ℤ x0) *ℤ pos (16777216 * q) in
      let two = (pos 2 *ℤ x0 -ℤ pos 5 *ℤ x1 +ℤ pos 4 *ℤ x2 -ℤ x3) *ℤ pos (4096 * q * q) in
      let three = (pos 3 *ℤ x1 -ℤ x0 -ℤ pos 3 *ℤ x2 +ℤ x3) *ℤ pos (q * q * q) in
      turn t one two three
      ∙ ap₂ (λ (x y : ℤ). x +ℤ y) (ap (λ (x : ℤ). x *ℤ pos 68719476736) (*ℤ_comm (pos 2) x1) ∙ mul-mul-nat x1 2 68719476736) rest
    where
      rest : (pos 3 *ℤ x1 -ℤ x0 -ℤ pos 3 *ℤ x2 +ℤ x3) *ℤ pos (q * q * q) +ℤ (pos 2 *ℤ x0 -ℤ pos 5 *ℤ x1 +ℤ pos 4 *ℤ x2 -ℤ x3) *ℤ pos (4096 * q * q) +ℤ (x2 -ℤ x0) *ℤ pos (16777216 * q)
          ≡ risen (x1 -ℤ x0) (x2 -ℤ x1) (x3 -ℤ x2) (pos q)
      rest =
          sym
          (horner (x1 -ℤ x0 +ℤ (x2 -ℤ x1)) (x2 -ℤ x1 -ℤ (x1 -ℤ x0) -ℤ (x3 -ℤ x2 -ℤ (x2 -ℤ x1) -ℤ (x2 -ℤ x1 -ℤ (x1 -ℤ x0)))) (x3 -ℤ x2 -ℤ (x2 -ℤ x1) -ℤ (x2 -ℤ x1 -ℤ (x1 -ℤ x0))) q
          ∙ ap₂ (λ (x y : ℤ). x +ℤ y)
          (ap₂ (λ (x y : ℤ). x *ℤ pos (q * q * q) +ℤ y *ℤ pos (4096 * q * q)) third second)
          (ap (λ (x : ℤ). x *ℤ pos (16777216 * q)) first))

  -- the reading as the code works it out
  pub interpolated-is : (q : ℕ)
      → held_to (negsuc 32767) (pos 32767) (x1 +ℤ floor_z (risen (x1 -ℤ x0) (x2 -ℤ x1) (x3 -ℤ x2) (pos q)) 137438953472) ≡ interpolated x0 x1 x2 x3 q
  unfolding interpolated
  interpolated-is q =
      ap (λ (x : ℤ). held_to (negsuc 32767) (pos 32767) x)
      (sym (ap (λ (x : ℤ). floor_z x 137438953472) (curve-risen q) ∙ floor-add x1 (risen (x1 -ℤ x0) (x2 -ℤ x1) (x3 -ℤ x2) (pos q)) 137438953472 (lit< tt)))

  -- it is a 16-bit number, whatever the points are
  pub interpolated-in : (q : ℕ) → Within (interpolated x0 x1 x2 x3 q) 32768
  unfolding interpolated
  interpolated-in q = held-bound (negsuc 32767) (pos 32767) (floor_z (curve x0 x1 x2 x3 q) 137438953472) 32768 (w-lit (negsuc 32767)) (w_le (w-lit (pos 32767)) (lit≤ tt))

-- the reading of any window
pub reading-in : (f : Bool) (from to : ℕ) (w : List ℤ) (p : ℕ) → Within (reading f from to w p) 32768
unfolding reading
reading-in f from to w p = interpolated-in _ _ _ _ _

-- away from the loop's end the next two samples stand behind
pub side_by_side : (f : Bool) (from to : ℕ) (w : List ℤ) (i q : ℕ) → (f ≡ true → i + 2 < to) → read_at f from to w i q ≡ between w i q
unfolding behind
side_by_side true from to w i q h =
    let k = h refl in
    ap (λ (b : Bool). interpolated (before w i) (sample w i) (sample w (cond b from (i + 1))) (sample w (behind true from to (cond b from (i + 1)))) q)
    (ne_eqb (i + 1) to (λ e. omega arith))
    ∙ ap (λ (b : Bool). interpolated (before w i) (sample w i) (sample w (i + 1)) (sample w (cond b from (i + 1 + 1))) q) (ne_eqb (i + 1 + 1) to (λ e. omega arith))
    ∙ ap (λ (n : ℕ). interpolated (before w i) (sample w i) (sample w (i + 1)) (sample w n) q) (two i)
  where
    two : (i : ℕ) → i + 1 + 1 ≡ i + 2
    two i = omega arith
side_by_side false from to w i q h = ap (λ (n : ℕ). interpolated (before w i) (sample w i) (sample w (i + 1)) (sample w n) q) (two i)
  where
    two : (i : ℕ) → i + 1 + 1 ≡ i + 2
    two i = omega arith

-- past the window's first sample
pub before-is : (w : List ℤ) (i : ℕ) → 0 < i → sample w (i - 1) ≡ before w i
unfolding before
before-is w zero h = absurd (no h)
  where
    no : 0 < 0 → ⊥
    no h = omega arith
before-is w (suc i) h = ap (sample w) (less i)
  where
    less : (i : ℕ) → suc i - 1 ≡ i
    less i = omega arith

-- the sample behind one before n, with a loop that begins before n where it folds, is not past n
pub behind-lt : (f : Bool) (from to i n : ℕ) → i < n → (f ≡ true → from < n) → behind f from to i < n + 1
unfolding behind
behind-lt true from to i n h k = by (eqb (i + 1) to)
  where
    by : (b : Bool) → cond b from (i + 1) < n + 1
    by true = omega (arith, k refl)
    by false = omega arith
behind-lt false from to i n h k = omega arith
