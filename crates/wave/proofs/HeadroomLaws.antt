-- The numbers of a pour of sums, shares of a run, and the level that a run needs.
use mathlib.Core.Path.{◌≡◌, refl, sym, ap, ap₂, ◌∙◌}
use mathlib.Core.Bool.{Bool, true, false, cond, ◌||◌}
use mathlib.Core.List.{List, [], ◌∷◌, ◌++◌}
use mathlib.Core.Logic.{inl, inr}
use Prim.Native.Nat.{ℕ, zero, suc, ◌+◌, ◌-◌, ◌*◌, ◌/◌, ◌%◌, ◌≤◌, ◌<◌, max, min}
use native.Mathlib.Nat.{not-suc-le-zero, eq-zero-or-pos, zero-add, le_refl, le_trans, le-max_left, le-max_right, max-le, mul-le-mul, mul-le-mul_left, mul_comm, div-mul-le_self, div-lt_iff_lt-mul, add_assoc}
use native.Mathlib.Omega.{arith}
use borrow.Author.Tests.{eqb-true, ltb-true, ltb-false, leb-true, leb-false, lt-ltb, le-ltb}
use lib.Dec.{eqb, ltb, leb, lit≤, lit<}
use lib.IntN.{ℤ, pos, negsuc, neg_ℤ, nat_abs, ◌*ℤ◌}
use lib.ListN.{length, take, drop, length-append, take-append-drop}
use lib.Seq.{take_at, drop_at, length-take-le}
use lib.Signed.{lt_z}
use Rattle.arith.proofs.FloorsLaws.{neg-suc}
use Rattle.arith.proofs.HoldsLaws.{between-two}
use Rattle.arith.proofs.WithinLaws.{w-floor-by, w-lit, w-mul}
use Rattle.arith.specs.Floors.{floor_z}
use Rattle.arith.specs.Within.{Within}
use Rattle.curves.specs.Levels.{gain_of, least_cb}
use Rattle.curves.proofs.LevelsLaws.{least-before, least-reached}
use Rattle.curves.proofs.LoudnessLaws.{gain-falls}
use Rattle.wave.specs.Headroom.{HeldAtZero, LessHolds, NoneIsHeld, SummingNumbers, SumsInShares, SumsKeepTheRest, SumsNumbers, SumsRefused, ZeroKeeps}
use Rattle.wave.specs.Lowering.{attenuation_for, frames_past, is_past, loudest_of, lowered_by, poured_sums, sums_into, sums_number, sums_poured}
use Rattle.wave.proofs.LoweringLaws.{either_past, loudest-append, none_needed, some-needed, sums-0, sums-13, sums-15, sums-answer, sums-append, sums-length, sums-refused, sums-written}
use Rattle.wave.proofs.PoursLaws.{neither}

-- ---- the numbers

-- which test a run of sums fails
data Case (zs : List ℤ) (room : ℕ) : Type 0 where
  odd : length zs % 2 ≡ 1 → Case zs room
  short : length zs % 2 ≡ 0 → room < 2 * length zs → Case zs room
  fine : length zs % 2 ≡ 0 → 2 * length zs ≤ room → Case zs room

case-of : (zs : List ℤ) (room : ℕ) → Case zs room
case-of zs room = elim (eq-zero-or-pos (length zs % 2)) [
  | inl z ↦ by z (ltb room (2 * length zs)) refl
  | inr p ↦ odd (omega (arith, p))
]
  where
    by : length zs % 2 ≡ 0 → (t : Bool) → ltb room (2 * length zs) ≡ t → Case zs room
    by z true e = short z (ltb-true room (2 * length zs) e)
    by z false e = fine z (ltb-false room (2 * length zs) e)

no-two : (m n : ℕ) {a : ℕ} → a ≡ m → a ≡ n → (m ≡ n → ⊥) → ⊥
no-two m n e f g = g (sym e ∙ f)

pub summing-numbers : SummingNumbers
summing-numbers zs room = by (case-of zs room)
  where
    by : Case zs room → SumsNumbers zs room
    by (odd o) = let e = sums-13 zs room o in record {
      thirteen = (λ h. o, λ h. e);
      fifteen = (λ h. absurd (no-two 13 15 e h (λ x. omega (arith, x))), λ h. absurd (omega (arith, o, h.0)));
      done = (λ h. absurd (no-two 13 0 e h (λ x. omega (arith, x))), λ h. absurd (omega (arith, o, h.0)));
      no_other = inr (inl e);
    }
    by (short v s) = let e = sums-15 zs room v s in record {
      thirteen = (λ h. absurd (no-two 15 13 e h (λ x. omega (arith, x))), λ h. absurd (omega (arith, v, h)));
      fifteen = (λ h. (v, s), λ h. e);
      done = (λ h. absurd (no-two 15 0 e h (λ x. omega (arith, x))), λ h. absurd (omega (arith, s, h.1)));
      no_other = inr (inr e);
    }
    by (fine v r) = let e = sums-0 zs room v r in record {
      thirteen = (λ h. absurd (no-two 0 13 e h (λ x. omega (arith, x))), λ h. absurd (omega (arith, v, h)));
      fifteen = (λ h. absurd (no-two 0 15 e h (λ x. omega (arith, x))), λ h. absurd (omega (arith, r, h.1)));
      done = (λ h. (v, r), λ h. e);
      no_other = inl e;
    }

pub sums-are-refused : SumsRefused
sums-are-refused a zs out n = by (eqb (sums_number zs (length out)) 0) refl
  where
    by : (t : Bool) → eqb (sums_number zs (length out)) 0 ≡ t
        → (sums_into a zs out ≡ out) × ((sums_poured a zs (length out)).held ≡ 0) × ((sums_poured a zs (length out)).loudest ≡ 0)
    by true e = absurd (n (eqb-true (sums_number zs (length out)) 0 e))
    by false e =
        let r = sums-refused a zs out (sums_number zs (length out)) refl e in
        (sym r.1, ap (λ p. p.held) (sym r.0), ap (λ p. p.loudest) (sym r.0))

-- what a pour that is done has room for
roomy : (zs : List ℤ) (room : ℕ) → sums_number zs room ≡ 0 → (length zs % 2 ≡ 0) × (2 * length zs ≤ room)
roomy zs room e = (summing-numbers zs room).done.0 e

pub sums-keep-the-rest : SumsKeepTheRest
sums-keep-the-rest a zs out e =
    let w = sums-written a zs out e in
    let l = sums-length (gain_of a) zs in
    let r = (roomy zs (length out) e).1 in (
      ap length w ∙ length-append (poured_sums (gain_of a) zs) (drop (2 * length zs) out) ∙ ap (λ (k : ℕ). k + length (drop (2 * length zs) out)) l
          ∙ sym (ap (λ (k : ℕ). k + length (drop (2 * length zs) out)) (length-take-le (2 * length zs) out r)) ∙ sym (length-append (take (2 * length zs) out) (drop (2 * length zs) out)) ∙ ap length (take-append-drop (2 * length zs) out),
      ap (drop (2 * length zs)) w ∙ drop_at (poured_sums (gain_of a) zs) (drop (2 * length zs) out) (2 * length zs) l,
    )

-- ---- shares

past-append : (g n : ℕ) (xs ys : List ℤ) → length xs ≡ 2 * n → frames_past g (xs ++ ys) ≡ frames_past g xs + frames_past g ys
unfolding frames_past
past-append g n [] ys e = sym (zero-add (frames_past g ys))
past-append g zero (l ∷ xs) ys e = absurd (omega (arith, e))
past-append g (suc n) (l ∷ []) ys e = absurd (omega (arith, e))
past-append g (suc n) (l ∷ r ∷ xs) ys e =
    let here : ℕ = cond (either_past g l r) 1 0 in
    ap (λ (k : ℕ). here + k) (past-append g n xs ys (omega (arith, e))) ∙ sym (add_assoc here (frames_past g xs) (frames_past g ys))

-- the bytes that a pour writes
written-part : (a : ℕ) (zs : List ℤ) (out : List ℕ) → sums_number zs (length out) ≡ 0 → take (2 * length zs) (sums_into a zs out) ≡ poured_sums (gain_of a) zs
written-part a zs out e =
    ap (take (2 * length zs)) (sums-written a zs out e) ∙ take_at (poured_sums (gain_of a) zs) (drop (2 * length zs) out) (2 * length zs) (sums-length (gain_of a) zs)

pub sums-in-shares : SumsInShares
sums-in-shares a xs ys one two out p q r =
    let even = (roomy xs (length one) p).0 in
    let other = (roomy ys (length two) q).0 in
    let all = sums-0 (xs ++ ys) (length out) (simp length-append (omega (arith, even, other))) r in (
      all,
      written-part a (xs ++ ys) out all ∙ sums-append (gain_of a) xs ys ∙ sym (ap₂ (λ (s t : List ℕ). s ++ t) (written-part a xs one p) (written-part a ys two q)),
      past-append (gain_of a) (length xs / 2) xs ys (omega (arith, even)),
      loudest-append xs ys,
    )

-- ---- the range

within-range : (k : ℤ) → Within k 8388608 → is_past k ≡ false
unfolding is_past
within-range (pos a) h = le-ltb 8388608 a h.within
within-range (negsuc a) h = ap (λ (b : Bool). b || false) (le-ltb 8388607 a (omega (arith, h.within)))

in-range : (k : ℤ) → is_past k ≡ false → nat_abs k ≤ 8388608
unfolding is_past
in-range k e =
    let n = neither (lt_z k (negsuc 8388607)) (lt_z (pos 8388608) k) e in
    (between-two (negsuc 8388607) (pos 8388608) k 8388608 n.0 n.1 (w-lit (negsuc 8388607)) (w-lit (pos 8388608))).within

-- a sum whose size times the gain is at most 2^47 is not held
lowered-within : (g : ℕ) (z : ℤ) → nat_abs z * g ≤ 140737488355328 → is_past (lowered_by g z) ≡ false
unfolding lowered_by
lowered-within g z h = within-range (floor_z (z *ℤ pos g) 16777216) (w-floor-by 8388608 16777216 (lit< tt) h (w-mul (w-lit z) (w-lit (pos g))))

-- neither is a run of them
none-past : (g size : ℕ) → size * g ≤ 140737488355328 → (zs : List ℤ) → loudest_of zs ≤ size → frames_past g zs ≡ 0
unfolding frames_past loudest_of
none-past g size h [] l = refl
none-past g size h (z ∷ []) l = refl
none-past g size h (x ∷ y ∷ zs) l =
    let rest : loudest_of (y ∷ zs) ≤ size = le_trans (le-max_right (nat_abs x) (max (nat_abs y) (loudest_of zs))) l in
    let left : nat_abs x ≤ size = le_trans (le-max_left (nat_abs x) (max (nat_abs y) (loudest_of zs))) l in
    let right : nat_abs y ≤ size = le_trans (le-max_left (nat_abs y) (loudest_of zs)) rest in
    let a = lowered-within g x (le_trans (mul-le-mul left (le_refl g)) h) in
    let b = lowered-within g y (le_trans (mul-le-mul right (le_refl g)) h) in
    ap₂ (λ (p q : Bool). cond (p || q) 1 0 + frames_past g zs) a b
    ∙ ap (λ (n : ℕ). 0 + n) (none-past g size h zs (le_trans (le-max_right (nat_abs y) (loudest_of zs)) rest))

-- the gain of 0 cB is 1
gain-zero : gain_of 0 ≡ 16777216
unfolding gain_of
gain-zero = refl

whole : (z : ℤ) → floor_z (z *ℤ pos 16777216) 16777216 ≡ z
whole (pos a) = ap pos (omega arith)
whole (negsuc a) = ap (λ (k : ℤ). floor_z k 16777216) (neg-suc (suc a * 16777216) (omega arith)) ∙ ap negsuc (omega arith)

pub zero-keeps : ZeroKeeps
unfolding lowered_by
zero-keeps z = ap (λ (g : ℕ). floor_z (z *ℤ pos g) 16777216) gain-zero ∙ whole z

-- ---- the least attenuation

deep : gain_of 999 ≤ 32768
unfolding gain_of
deep = lit≤ tt

-- below 1,000 cB there is a gain for every size of 32 bits
few : (size : ℕ) → 8388608 < size → size < 4294967296 → least_cb (140737488355328 / size) < 1000
few size h s = by (ltb (least_cb (140737488355328 / size)) 1000) refl
  where
    by : (t : Bool) → ltb (least_cb (140737488355328 / size)) 1000 ≡ t → least_cb (140737488355328 / size) < 1000
    by true e = ltb-true (least_cb (140737488355328 / size)) 1000 e
    by false e =
        let far = ltb-false (least_cb (140737488355328 / size)) 1000 e in
        let loud = least-before (140737488355328 / size) 999 (omega (arith, far)) in
        let less = (div-lt_iff_lt-mul {k = size} {x = 140737488355328} {y = 32768} (omega (arith, h))).0 (omega (arith, loud, deep)) in
        absurd (omega (arith, less, s))

-- so with the attenuation for a size, or with more, the size times the gain is at most 2^47
low-enough : (size a : ℕ) → size < 4294967296 → attenuation_for size ≤ a → size * gain_of a ≤ 140737488355328
low-enough size a s h = by (leb size 8388608) refl
  where
    by : (t : Bool) → leb size 8388608 ≡ t → size * gain_of a ≤ 140737488355328
    by true e =
        let most : gain_of a ≤ 16777216 = omega (arith, gain-falls 0 a (omega arith), gain-zero) in
        le_trans (mul-le-mul (leb-true size 8388608 e) most) (lit≤ tt)
    by false e =
        let big = leb-false size 8388608 e in
        let q = 140737488355328 / size in
        let reached = least-reached q (few size big s) in
        let falls = gain-falls (least_cb q) a (omega (arith, h, some-needed size big)) in
        le_trans (mul-le-mul_left size (le_trans falls reached)) (omega (arith, div-mul-le_self 140737488355328 size, mul_comm size q))

held_none : (a : ℕ) (zs : List ℤ) (room : ℕ) → frames_past (gain_of a) zs ≡ 0 → (sums_poured a zs room).held ≡ 0
unfolding sums_poured
held_none a zs room e = by (eqb (sums_number zs room) 0) refl
  where
    by : (t : Bool) → eqb (sums_number zs room) 0 ≡ t → (sums_poured a zs room).held ≡ 0
    by true q = rw (q, e) refl
    by false q = rw q refl

pub none-is-held : NoneIsHeld
none-is-held size a zs room s h l = held_none a zs room (none-past (gain_of a) size (low-enough size a s h) zs l)

-- ---- attenuation 0

at_zero : (z : ℤ) → is_past (lowered_by (gain_of 0) z) ≡ false → nat_abs z ≤ 8388608
at_zero z e = in-range z (ap is_past (sym (zero-keeps z)) ∙ e)

not-one : (b : Bool) (n : ℕ) → cond b 1 0 + n ≡ 0 → (b ≡ false) × (n ≡ 0)
not-one true n e = absurd (omega (arith, e))
not-one false n e = (refl, omega (arith, e))

all-within : (n : ℕ) (zs : List ℤ) → length zs ≡ 2 * n → frames_past (gain_of 0) zs ≡ 0 → loudest_of zs ≤ 8388608
unfolding frames_past loudest_of
all-within n [] l e = omega arith
all-within zero (x ∷ zs) l e = absurd (omega (arith, l))
all-within (suc n) (x ∷ []) l e = absurd (omega (arith, l))
all-within (suc n) (x ∷ y ∷ zs) l e =
    let two = not-one (either_past (gain_of 0) x y) (frames_past (gain_of 0) zs) e in
    let both = neither (is_past (lowered_by (gain_of 0) x)) (is_past (lowered_by (gain_of 0) y)) two.0 in
    max-le (at_zero x both.0) (max-le (at_zero y both.1) (all-within n zs (omega (arith, l)) two.1))

pub held-at-zero : HeldAtZero
held-at-zero zs room z = (
  λ h. all-within (length zs / 2) zs (omega (arith, (roomy zs room z).0)) (capped (frames_past (gain_of 0) zs) (sym (ap (λ p. p.held) (sums-answer 0 zs room z)) ∙ h)),
  λ h. held_none 0 zs room (none-past (gain_of 0) 8388608 (low-enough 8388608 0 (lit< tt) (omega (arith, none_needed 8388608 (lit≤ tt)))) zs h),
)
  where
    capped : (n : ℕ) → min n 4294967295 ≡ 0 → n ≡ 0
    capped n e = omega (arith, e)

-- ---- less than the least

past-below : (size g : ℕ) → 0 < size → 140737488355328 < size * g → is_past (lowered_by g (neg_ℤ (pos size))) ≡ true
unfolding is_past lowered_by
past-below zero g s h = absurd (not-suc-le-zero s)
past-below (suc n) g s h =
    let p = suc n * g in
    let deep : 8388607 < (p - 1) / 16777216 = omega (arith, h) in
    ap (λ (k : ℤ). lt_z (floor_z k 16777216) (negsuc 8388607) || lt_z (pos 8388608) (floor_z k 16777216)) (neg-suc p (omega (arith, h)))
    ∙ ap (λ (b : Bool). b || lt_z (pos 8388608) (negsuc ((p - 1) / 16777216))) (lt-ltb 8388607 ((p - 1) / 16777216) deep)

pub less-holds : LessHolds
unfolding frames_past
less-holds size a r room h room_for = by (leb size 8388608) refl
  where
    by : (t : Bool) → leb size 8388608 ≡ t → (sums_poured a (neg_ℤ (pos size) ∷ r ∷ []) room).held ≡ 1
    by true e = absurd (omega (arith, h, none_needed size (leb-true size 8388608 e)))
    by false e =
        let big = leb-false size 8388608 e in
        let loud = least-before (140737488355328 / size) a (omega (arith, h, some-needed size big)) in
        let past = (div-lt_iff_lt-mul {k = size} {x = 140737488355328} {y = gain_of a} (omega (arith, big))).0 loud in
        let p = past-below size (gain_of a) (omega (arith, big)) (omega (arith, past, mul_comm size (gain_of a))) in
        ap (λ q. q.held) (sums-answer a (neg_ℤ (pos size) ∷ r ∷ []) room (sums-0 (neg_ℤ (pos size) ∷ r ∷ []) room refl room_for))
        ∙ ap (λ (b : Bool). min (cond (b || is_past (lowered_by (gain_of a) r)) 1 0 + 0) 4294967295) p
