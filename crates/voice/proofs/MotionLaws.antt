-- Laws of the step and of folding: a total held twice; the cases of a fold, that it ends below the loop end, and that folding early changes nothing.
use Prim.Native.Nat.{ℕ, ◌<◌, ◌+◌, ◌-◌, ◌%◌, ◌≤◌}
use mathlib.Core.Path.{◌≡◌, ap, ◌∙◌, refl, sym}
use borrow.Author.Tests.{lt-ltb, le-ltb, ltb-true, ltb-false}
use native.Mathlib.Nat.{mod-eq_of_lt, mod-eq-sub-mod, mod-lt, mod-add-mod}
use native.Mathlib.Omega.{arith}
use mathlib.Core.Bool.{Bool, true, false, cond}
use mathlib.Core.Logic.{◌⊎◌, inl, inr, ⊎_elim}
use lib.Dec.{ltb}
use lib.IntN.{ℤ, pos, negsuc, ◌+ℤ◌}
use lib.Signed.{lt_z}
use Rattle.voice.specs.Motion.{fold, pitch_total, step}
use Rattle.arith.proofs.HoldsLaws.{clamp-in}
use Rattle.curves.specs.Pitch.{pitch_held, bend_cents}
use Rattle.curves.specs.Internal.Pitch.{step_at}
use Rattle.voice.specs.declared.Voice.{Voice}
use Rattle.voice.specs.declared.Channel.{Channel}

-- before the loop end it stays
pub fold-in : (a b p : ℕ) → p < b → fold a b p ≡ p
unfolding fold
fold-in a b p h = simp (lt-ltb p b h)

-- at or past the end, by the remainder
pub fold-past : (a b p : ℕ) → b ≤ p → fold a b p ≡ a + (p - a) % (b - a)
unfolding fold
fold-past a b p h = simp (le-ltb p b h)

-- less than one loop length past the end: one length back
pub fold-once : (a b p : ℕ) → a < b → b ≤ p → p - (b - a) < b → fold a b p ≡ p - (b - a)
fold-once a b p h g k =
    let L = b - a in
    let far : L ≤ p - a = omega arith in
    let near : p - a - L < L = omega arith in
    fold-past a b p g ∙ ap (λ (x : ℕ). a + x) (mod-eq-sub-mod far ∙ mod-eq_of_lt near) ∙ omega arith

-- below or not
pub split : (p b : ℕ) → (p < b) ⊎ (b ≤ p)
split p b = by (ltb p b) refl
  where
    by : (t : Bool) → ltb p b ≡ t → (p < b) ⊎ (b ≤ p)
    by true e = inl (ltb-true p b e)
    by false e = inr (ltb-false p b e)

-- a remainder is less than the loop length
past-lt : (a b p : ℕ) → a < b → a + (p - a) % (b - a) < b
past-lt a b p h = let z : 0 < b - a = omega arith in omega (arith, mod-lt (p - a) z)

-- a folded place is before the loop end
pub fold-lt : (a b p : ℕ) → a < b → fold a b p < b
fold-lt a b p h =
    ⊎_elim (λ l. rw (fold-in a b p l) l) (λ g. rw (fold-past a b p g) (past-lt a b p h)) (split p b)

-- a place that is folded, moved and folded is the place moved and folded
pub fold-add : (a b p s : ℕ) → a < b → fold a b (fold a b p + s) ≡ fold a b (p + s)
fold-add a b p s h =
    ⊎_elim (λ l. ap (λ (x : ℕ). fold a b (x + s)) (fold-in a b p l))
    (λ g.
    let L = b - a in
    let r = (p - a) % L in
    let z : 0 < L = omega arith in
    let q : a + r < b = past-lt a b p h in
    let whole : fold a b (p + s) ≡ a + (r + s) % L =
    fold-past a b (p + s) (omega arith)
    ∙ ap (λ (x : ℕ). a + x % L) (shift p s (omega arith))
    ∙ ap (λ (x : ℕ). a + x) (sym (mod-add-mod (p - a) L s)) in
    ap (λ (x : ℕ). fold a b (x + s)) (fold-past a b p g)
    ∙ ⊎_elim
    (λ l.
    let small : r + s < L = omega arith in
    fold-in a b (a + r + s) l ∙ assoc r s ∙ ap (λ (x : ℕ). a + x) (sym (mod-eq_of_lt small)) ∙ sym whole)
    (λ m. fold-past a b (a + r + s) m ∙ ap (λ (x : ℕ). a + x % L) (less r s) ∙ sym whole)
    (split (a + r + s) b))
    (split p b)
  where
    shift : (p s : ℕ) → a ≤ p → p + s - a ≡ p - a + s
    shift p s h = omega arith

    assoc : (r s : ℕ) → a + r + s ≡ a + (r + s)
    assoc r s = omega arith

    less : (r s : ℕ) → a + r + s - a ≡ r + s
    less r s = omega arith

-- a total that is held is held already
held-again : (x : ℤ) → pitch_held (pitch_held x) ≡ pitch_held x
held-again x = by (lt_z x (negsuc 9599)) refl (lt_z (pos 4800) x) refl
  where
    by : (a : Bool) → lt_z x (negsuc 9599) ≡ a → (b : Bool) → lt_z (pos 4800) x ≡ b
        → pitch_held (cond a (negsuc 9599) (cond b (pos 4800) x)) ≡ cond a (negsuc 9599) (cond b (pos 4800) x)
    by true e b f = refl
    by false e true f = refl
    by false e false f = clamp-in (negsuc 9599) (pos 4800) x e f

-- holding a total first does not change its step
pub step-held : (x : ℤ) (rate : ℕ) → step_at (pitch_held x) rate ≡ step_at x rate
unfolding step_at
step-held x rate = rw (held-again x)

-- the step, as the code finds it
pub step-at : (c : Channel) (v : Voice) → step c v ≡ step_at (v.pitch +ℤ bend_cents c.bend) v.rate
unfolding step pitch_total step_at
step-at c v = refl
