-- The ways of the code lead where the definition does.
use Prim.Native.Nat.{ℕ, zero, suc, ◌+◌, ◌*◌, ◌-◌, ◌%◌, ◌<◌, ◌≤◌}
use mathlib.Core.Path.{◌≡◌, refl, ap, sym, ◌∙◌, subst}
use mathlib.Core.Bool.{Bool, true, false, cond, not, ◌&&◌}
use mathlib.Core.Logic.{⊎_elim}
use native.Mathlib.Omega.{arith}
use native.Mathlib.Nat.{mod-eq_of_lt, mod-eq-sub-mod, mod-lt, mod-add-mod}
use borrow.Author.Tests.{lt-ltb, le-ltb, lt-leb}
use lib.Dec.{ltb, leb}
use Rattle.voice.specs.declared.Stage.{Stage}
use Rattle.voice.specs.declared.Voice.{Voice}
use Rattle.voice.specs.declared.way.Way.{Way}
use Rattle.voice.specs.Motion.{folds, fold, folded, span, settled, ended}
use Rattle.voice.specs.Internal.Way.{next_place, place_on, OnWay}
use Rattle.voice.proofs.MotionLaws.{fold-in, fold-past, split}

-- a step that stays before the end
next-in : (y : Way) (p : ℕ) → p + y.step < y.end → next_place y p ≡ p + y.step
next-in y p h = simp (lt-ltb (p + y.step) y.end h)

-- one that does not
next-back : (y : Way) (p : ℕ) → y.end ≤ p + y.step → next_place y p ≡ p + y.step - y.back
next-back y p h = simp (le-ltb (p + y.step) y.end h)

-- it does not fold, and stays before the window's end
pub straight-on : (v : Voice) (s : Stage) (st : ℕ) (y : Way) → folds v s ≡ false → y.from ≡ 0 → y.step ≡ st → y.end ≡ span v * 16777216
    → ((p : ℕ) → p < y.limit → p + st < span v * 16777216) → OnWay v s st y
unfolding ended settled
straight-on v s st y f from step end h p k l =
    let z = h p l in
    record {
      stays = ap (λ (b : Bool). not b && leb (span v * 16777216) (p + st)) f ∙ lt-leb (span v * 16777216) (p + st) z;
      goes = ap (λ (b : Bool). cond b (folded v (p + st)) (p + st)) f ∙ sym (next-in y p (omega (arith, z, step, end)) ∙ ap (λ (n : ℕ). p + n) step);
      keeps = omega (arith, from);
    }

-- it folds, and stays before the loop's end
pub straight-in : (v : Voice) (s : Stage) (st : ℕ) (y : Way) → folds v s ≡ true → y.from ≡ 0 → y.step ≡ st → y.end ≡ v.loopto * 16777216
    → ((p : ℕ) → p < y.limit → p + st < v.loopto * 16777216) → OnWay v s st y
unfolding ended settled
straight-in v s st y f from step end h p k l =
    let z = h p l in
    record {
      stays = ap (λ (b : Bool). not b && leb (span v * 16777216) (p + st)) f;
      goes =
          ap (λ (b : Bool). cond b (folded v (p + st)) (p + st)) f
          ∙ fold-in (v.loopfrom * 16777216) (v.loopto * 16777216) (p + st) z
          ∙ sym (next-in y p (omega (arith, z, step, end)) ∙ ap (λ (n : ℕ). p + n) step);
      keeps = omega (arith, from);
    }

-- in the loop, a step without its whole lengths leads to the same place
round-fold : (a b p st : ℕ) → a < b → a ≤ p → p < b
    → fold a b (p + st) ≡ cond (ltb (p + st % (b - a)) b) (p + st % (b - a)) (p + st % (b - a) - (b - a))
round-fold a b p st h k l =
    ⊎_elim
    (λ (i : p + st < b).
    let e : st % (b - a) ≡ st = mod-eq_of_lt (omega arith) in
    fold-in a b (p + st) i ∙ sym (ap (λ (r : ℕ). cond (ltb (p + r) b) (p + r) (p + r - (b - a))) e ∙ inside (p + st) i))
    (λ (i : b ≤ p + st).
    let L = b - a in
    let r = st % L in
    let z : 0 < L = omega arith in
    let s : r < L = mod-lt st z in
    fold-past a b (p + st) i
    ∙ ap (λ (x : ℕ). a + x % L) (shift p st k)
    ∙ ap (λ (x : ℕ). a + x) (sym (mod-add-mod st L (p - a)))
    ∙ ⊎_elim
    (λ (j : p + r < b).
    let q : r + (p - a) < L = omega arith in
    ap (λ (x : ℕ). a + x) (mod-eq_of_lt q) ∙ here p r k ∙ sym (inside (p + r) j))
    (λ (j : b ≤ p + r).
    let far : L ≤ r + (p - a) = omega arith in
    let near : r + (p - a) - L < L = omega arith in
    ap (λ (x : ℕ). a + x) (mod-eq-sub-mod far ∙ mod-eq_of_lt near) ∙ there p r L k far ∙ sym (outside (p + r) j))
    (split (p + r) b))
    (split (p + st) b)
  where
    shift : (p st : ℕ) → a ≤ p → p + st - a ≡ st + (p - a)
    shift p st k = omega arith

    here : (p r : ℕ) → a ≤ p → a + (r + (p - a)) ≡ p + r
    here p r k = omega arith

    there : (p r L : ℕ) → a ≤ p → L ≤ r + (p - a) → a + (r + (p - a) - L) ≡ p + r - L
    there p r L k h = omega arith

    inside : (x : ℕ) → x < b → cond (ltb x b) x (x - (b - a)) ≡ x
    inside x i = simp (lt-ltb x b i)

    outside : (x : ℕ) → b ≤ x → cond (ltb x b) x (x - (b - a)) ≡ x - (b - a)
    outside x i = simp (le-ltb x b i)

-- and that place lies in the loop
round_keeps : (a b p r : ℕ) → a < b → a ≤ p → a ≤ cond (ltb (p + r) b) (p + r) (p + r - (b - a))
round_keeps a b p r h k =
    ⊎_elim (λ (i : p + r < b). subst (λ (t : Bool). a ≤ cond t (p + r) (p + r - (b - a))) (sym (lt-ltb (p + r) b i)) (omega arith))
    (λ (i : b ≤ p + r). subst (λ (t : Bool). a ≤ cond t (p + r) (p + r - (b - a))) (sym (le-ltb (p + r) b i)) (omega arith))
    (split (p + r) b)

-- round the loop
pub round-on : (v : Voice) (s : Stage) (st : ℕ) (y : Way) → folds v s ≡ true → v.loopfrom < v.loopto
    → y.from ≡ v.loopfrom * 16777216 → y.limit ≡ v.loopto * 16777216
    → y.step ≡ st % (v.loopto * 16777216 - v.loopfrom * 16777216) → y.end ≡ v.loopto * 16777216
    → y.back ≡ v.loopto * 16777216 - v.loopfrom * 16777216 → OnWay v s st y
unfolding ended settled
round-on v s st y f m from limit step end back p k l =
    let a = v.loopfrom * 16777216 in
    let b = v.loopto * 16777216 in
    let below : a < b = omega arith in
    let at : a ≤ p = omega (arith, from) in
    let same : cond (ltb (p + st % (b - a)) b) (p + st % (b - a)) (p + st % (b - a) - (b - a)) ≡ next_place y p = rw (step, end, back) refl in
    record {
      stays = ap (λ (c : Bool). not c && leb (span v * 16777216) (p + st)) f;
      goes = ap (λ (c : Bool). cond c (folded v (p + st)) (p + st)) f ∙ round-fold a b p st below at (omega (arith, limit)) ∙ same;
      keeps = subst (λ (x : ℕ). y.from ≤ x) same (subst (λ (x : ℕ). x ≤ cond (ltb (p + st % (b - a)) b) (p + st % (b - a)) (p + st % (b - a) - (b - a))) (sym from) (round_keeps a b p (st % (b - a)) below at));
    }

-- all places of the way lie on it
pub keeps_on : (v : Voice) (s : Stage) (st : ℕ) (y : Way) (p : ℕ) → OnWay v s st y → y.from ≤ p
    → (m : ℕ) → ((j : ℕ) → j < m → place_on y p j < y.limit) → y.from ≤ place_on y p m
unfolding place_on
keeps_on v s st y p on h zero k = h
keeps_on v s st y p on h (suc m) k =
    (on (place_on y p m) (keeps_on v s st y p on h m (λ j i. k j (omega arith))) (k m (omega arith))).keeps
