-- Laws of sums poured at a lower level: a turn of each loop, and the answers of the call.
use mathlib.Core.Path.{◌≡◌, refl, sym, ap, ap₂, ◌∙◌, subst}
use mathlib.Core.Bool.{Bool, true, false, cond, ◌||◌}
use mathlib.Core.List.{List, [], ◌∷◌, ◌++◌, append-nil}
use mathlib.Core.Logic.{inl, inr}
use Prim.Native.Nat.{ℕ, zero, suc, ◌+◌, ◌*◌, ◌/◌, ◌%◌, ◌≤◌, ◌<◌, max, min}
use native.Mathlib.Nat.{not-suc-le-zero, eq-zero-or-pos, le_antisymm, le_trans, le-max_left, le-max_right, max-le, max-zero, zero-max, add_assoc}
use native.Mathlib.Numerals.{add-one}
use native.Mathlib.Omega.{arith}
use borrow.Author.Tests.{eq-eqb, le-leb, lt-leb, lt-ltb, le-ltb}
use lib.Dec.{eqb}
use lib.IntN.{ℤ, pos, negsuc, nat_abs}
use lib.ListN.{length, get_or, set, take, drop}
use lib.Seq.{length-take-le, take-suc}
use lib.Signed.{lt_z}
use Rattle.arith.proofs.Put.{put2}
use Rattle.arith.specs.Floors.{mod_z}
use Rattle.arith.specs.Holds.{held_to}
use Rattle.arith.specs.Within.{Within}
use Rattle.curves.specs.Levels.{gain_of, least_cb}
use Rattle.wave.specs.Headings.{in_two}
use Rattle.wave.specs.Internal.Pcm.{word_of}
use Rattle.wave.specs.Lowering.{attenuation_for, frames_past, is_past, loudest_of, lowered_by, poured_sums, sum_word, sums_into, sums_number, sums_poured}
use Rattle.wave.specs.Pcm.{pcm_of_k}
use Rattle.wave.proofs.PcmLaws.{word-is}
use Rattle.wave.proofs.PoursLaws.{high_byte, word_lt}

-- the 16-bit number of a k by its sign and size
pub word-signed : (k : ℤ) → Within k 8388608 → word_of (lt_z k (pos 0)) (nat_abs k) ≡ mod_z (pcm_of_k k) 65536
word-signed (pos a) h = ap (λ (b : Bool). word_of b a) (le-ltb a 0 (omega arith)) ∙ sym (word-is false a h.within)
word-signed (negsuc a) h = sym (word-is true (suc a) h.within)

-- ---- the bytes

-- the bytes of sums in two runs
pub sums-append : (g : ℕ) (xs ys : List ℤ) → poured_sums g (xs ++ ys) ≡ poured_sums g xs ++ poured_sums g ys
unfolding poured_sums
sums-append g [] ys = refl
sums-append g (x ∷ xs) ys = ap (λ (l : List ℕ). in_two (sum_word g x) ++ l) (sums-append g xs ys)

-- two for each
pub sums-length : (g : ℕ) (xs : List ℤ) → length (poured_sums g xs) ≡ 2 * length xs
unfolding poured_sums
sums-length g [] = refl
sums-length g (x ∷ xs) = let e : length (poured_sums g xs) ≡ 2 * length xs = sums-length g xs in omega (arith, e)

one_more : (g : ℕ) (xs : List ℤ) (i : ℕ) → i < length xs
    → poured_sums g (take (i + 1) xs) ≡ poured_sums g (take i xs) ++ in_two (sum_word g (get_or xs i (pos 0)))
unfolding poured_sums
one_more g xs i h =
    ap (poured_sums g) (ap (λ (j : ℕ). take j xs) (add-one i) ∙ take-suc xs i (pos 0) h)
    ∙ sums-append g (take i xs) (get_or xs i (pos 0) ∷ [])
    ∙ ap (λ (l : List ℕ). poured_sums g (take i xs) ++ l) (append-nil (in_two (sum_word g (get_or xs i (pos 0)))))

pub sum-word-lt : (g : ℕ) (z : ℤ) → sum_word g z < 65536
unfolding sum_word
sum-word-lt g z = word_lt (pcm_of_k (held_to (negsuc 8388607) (pos 8388608) (lowered_by g z)))

-- before the first turn
pub sums_none : (g : ℕ) (zs : List ℤ) (d : List ℕ) → d ≡ poured_sums g (take 0 zs) ++ drop (2 * 0) d
unfolding poured_sums
sums_none g zs d = refl

-- a turn: the two bytes of the next sum
pub sums-turn : (g : ℕ) (zs : List ℤ) (d : List ℕ) (i w : ℕ) → i < length zs → 2 * length zs ≤ length d
    → w ≡ sum_word g (get_or zs i (pos 0))
    → set (set (poured_sums g (take i zs) ++ drop (2 * i) d) (2 * i) (w % 256)) (2 * i + 1) (w / 256)
    ≡ poured_sums g (take (i + 1) zs) ++ drop (2 * (i + 1)) d
sums-turn g zs d i w h room e =
    let p = poured_sums g (take i zs) in
    let long : length p ≡ 2 * i = sums-length g (take i zs) ∙ ap (λ (k : ℕ). 2 * k) (length-take-le i zs (omega (arith, h))) in
    let further : 2 * i + 2 ≡ 2 * (i + 1) = omega arith in
    put2 p d (2 * i) (w % 256) (w / 256) 0 long (omega (arith, h, room))
    ∙ ap₂ (λ (l : List ℕ) (j : ℕ). l ++ drop j d)
    (ap (λ (l : List ℕ). p ++ l)
    (ap (λ (b : ℕ). (w % 256) ∷ b ∷ []) (sym (high_byte w (subst (λ (v : ℕ). v < 65536) (sym e) (sum-word-lt g (get_or zs i (pos 0)))))) ∙ ap in_two e)
    ∙ sym (one_more g zs i h))
    further

-- ---- the frames that are held

-- whether one of two sums is past the range
abbrev pub either_past : ℕ → ℤ → ℤ → Bool
either_past g l r = is_past (lowered_by g l) || is_past (lowered_by g r)

-- before the first turn
pub past-none : (g : ℕ) (zs : List ℤ) → 0 ≡ frames_past g (take (2 * 0) zs)
unfolding frames_past
past-none g zs = refl

two-more : (k : ℕ) → 2 * suc k ≡ suc (suc (2 * k))
two-more k = omega arith

past-suc : (g : ℕ) (zs : List ℤ) (k : ℕ) → 2 * k + 1 < length zs
    → frames_past g (take (2 * suc k) zs) ≡ frames_past g (take (2 * k) zs) + cond (either_past g (get_or zs (2 * k) (pos 0)) (get_or zs (2 * k + 1) (pos 0))) 1 0
unfolding frames_past
past-suc g [] k h = absurd (not-suc-le-zero h)
past-suc g (l ∷ []) k h = let no : 0 < 0 = omega (arith, h) in absurd (not-suc-le-zero no)
past-suc g (l ∷ r ∷ zs) zero h = omega arith
past-suc g (l ∷ r ∷ zs) (suc k) h =
    let two = two-more k in
    let one : 2 * suc k + 1 ≡ suc (suc (2 * k + 1)) = omega arith in
    let here : ℕ = cond (either_past g l r) 1 0 in
    ap (λ (n : ℕ). frames_past g (take n (l ∷ r ∷ zs))) (two-more (suc k))
    ∙ ap (λ (n : ℕ). here + n) (past-suc g zs k (omega (arith, h)))
    ∙ sym (add_assoc here (frames_past g (take (2 * k) zs)) (cond (either_past g (get_or zs (2 * k) (pos 0)) (get_or zs (2 * k + 1) (pos 0))) 1 0))
    ∙ sym (ap₂ (λ (m n : ℕ). frames_past g (take m (l ∷ r ∷ zs)) + cond (either_past g (get_or (l ∷ r ∷ zs) m (pos 0)) (get_or (l ∷ r ∷ zs) n (pos 0))) 1 0) two one)

-- a turn
pub past-turn : (g : ℕ) (zs : List ℤ) (k : ℕ) → 2 * k + 1 < length zs
    → frames_past g (take (2 * (k + 1)) zs) ≡ frames_past g (take (2 * k) zs) + cond (either_past g (get_or zs (2 * k) (pos 0)) (get_or zs (2 * k + 1) (pos 0))) 1 0
past-turn g zs k h = rw (add-one k) (past-suc g zs k h)

-- a test of one sum by its two comparisons
pub past-low : (k : ℤ) → lt_z k (negsuc 8388607) ≡ true → true ≡ is_past k
unfolding is_past
past-low k e = rw e refl

pub past-high : (k : ℤ) → lt_z k (negsuc 8388607) ≡ false → lt_z (pos 8388608) k ≡ is_past k
unfolding is_past
past-high k e = rw e refl

-- 1 or 0
pub at_most_one : (b : Bool) → cond b 1 0 ≤ 1
at_most_one true = omega arith
at_most_one false = omega arith

-- ---- the loudest

max_assoc : (a b c : ℕ) → max (max a b) c ≡ max a (max b c)
max_assoc a b c =
    le_antisymm
    (max-le (max-le (le-max_left a (max b c)) (le_trans (le-max_left b c) (le-max_right a (max b c)))) (le_trans (le-max_right b c) (le-max_right a (max b c))))
    (max-le (le_trans (le-max_left a b) (le-max_left (max a b) c)) (max-le (le_trans (le-max_right a b) (le-max_left (max a b) c)) (le-max_right (max a b) c)))

-- the loudest of two runs
pub loudest-append : (xs ys : List ℤ) → loudest_of (xs ++ ys) ≡ max (loudest_of xs) (loudest_of ys)
unfolding loudest_of
loudest-append [] ys = sym (zero-max (loudest_of ys))
loudest-append (x ∷ xs) ys = ap (max (nat_abs x)) (loudest-append xs ys) ∙ sym (max_assoc (nat_abs x) (loudest_of xs) (loudest_of ys))

-- before the first turn
pub loudest-none : (zs : List ℤ) → 0 ≡ loudest_of (take 0 zs)
unfolding loudest_of
loudest-none zs = refl

-- a turn
pub loudest-turn : (zs : List ℤ) (i : ℕ) → i < length zs → loudest_of (take (i + 1) zs) ≡ max (loudest_of (take i zs)) (nat_abs (get_or zs i (pos 0)))
unfolding loudest_of
loudest-turn zs i h =
    ap loudest_of (ap (λ (j : ℕ). take j zs) (add-one i) ∙ take-suc zs i (pos 0) h)
    ∙ loudest-append (take i zs) (get_or zs i (pos 0) ∷ [])
    ∙ ap (max (loudest_of (take i zs))) (max-zero (nat_abs (get_or zs i (pos 0))))

-- ---- the answers of `pour_sums`

pub sums-13 : (zs : List ℤ) (room : ℕ) → length zs % 2 ≡ 1 → sums_number zs room ≡ 13
unfolding sums_number
sums-13 zs room a = rw (eq-eqb (length zs % 2) 1 a)

-- an even count, where it is not odd
pub not-odd : (n : ℕ) → (n % 2 ≡ 1 → ⊥) → n % 2 ≡ 0
not-odd n f = elim (eq-zero-or-pos (n % 2)) [
  | inl z ↦ z
  | inr p ↦ absurd (f (omega (arith, p)))
]

even-test : (n : ℕ) → n % 2 ≡ 0 → eqb (n % 2) 1 ≡ false
even-test n e = ap (λ (m : ℕ). eqb m 1) e

pub sums-15 : (zs : List ℤ) (room : ℕ) → length zs % 2 ≡ 0 → room < 2 * length zs → sums_number zs room ≡ 15
unfolding sums_number
sums-15 zs room a b = rw (even-test (length zs) a, lt-ltb room (2 * length zs) b)

pub sums-0 : (zs : List ℤ) (room : ℕ) → length zs % 2 ≡ 0 → 2 * length zs ≤ room → sums_number zs room ≡ 0
unfolding sums_number
sums-0 zs room a b = rw (even-test (length zs) a, le-ltb room (2 * length zs) b)

-- refused
pub sums-refused : (a : ℕ) (zs : List ℤ) (out : List ℕ) (n : ℕ) → sums_number zs (length out) ≡ n → eqb n 0 ≡ false
    → (record { number = n; held = 0; loudest = 0 } ≡ sums_poured a zs (length out)) × (out ≡ sums_into a zs out)
unfolding sums_poured sums_into
sums-refused a zs out n e q = (rw (e, q) refl, rw (e, q) refl)

-- done
pub sums-answer : (a : ℕ) (zs : List ℤ) (room : ℕ) → sums_number zs room ≡ 0
    → sums_poured a zs room ≡ record { number = 0; held = min (frames_past (gain_of a) zs) 4294967295; loudest = loudest_of zs }
unfolding sums_poured
sums-answer a zs room e = rw e refl

pub sums-written : (a : ℕ) (zs : List ℤ) (out : List ℕ) → sums_number zs (length out) ≡ 0
    → sums_into a zs out ≡ poured_sums (gain_of a) zs ++ drop (2 * length zs) out
unfolding sums_into
sums-written a zs out e = rw e refl

-- ---- the least attenuation

pub none_needed : (size : ℕ) → size ≤ 8388608 → 0 ≡ attenuation_for size
unfolding attenuation_for
none_needed size h = rw (le-leb size 8388608 h) refl

pub some-needed : (size : ℕ) → 8388608 < size → least_cb (140737488355328 / size) ≡ attenuation_for size
unfolding attenuation_for
some-needed size h = rw (lt-leb size 8388608 h) refl
