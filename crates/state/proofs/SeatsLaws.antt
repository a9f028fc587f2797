-- Laws of seats: the lowest free slot by the word, the least claim along the order, and the order renewed place by place.
use Prim.Native.Nat.{ℕ, suc, ◌/◌, ◌%◌, ◌+◌, ◌<◌, ◌≤◌, zero, ◌^◌, ◌*◌, max}
use mathlib.Core.Path.{◌≡◌, refl, ap, sym, ◌∙◌, ap₂}
use mathlib.Core.Bool.{cond, Bool, true, false}
use mathlib.Core.List.{List, [], ◌∷◌, ◌++◌, map}
use lib.Dec.{eqb, ltb, leb-suc-suc}
use lib.ListN.{length, take, get_or, length-append, length-take, set}
use native.Mathlib.Numerals.{add-one}
use lib.Seq.{take-suc, get_or-take, take-suc-set}
use native.Mathlib.Omega.{arith}
use native.Mathlib.Nat.{not-suc-le-zero, le_of_suc-le-suc, pow-zero, pow-suc}
use borrow.Author.Tests.{eq-eqb, ne_eqb, le-ltb, lt-ltb}
use lib.Bits.{bit_or, or_step, or_zero_r}
use lib.Count.{ones}
use Rattle.arith.specs.Internal.Words.{lowest_clear}
use Rattle.voice.specs.declared.Voice.{Voice}
use Rattle.state.specs.Slots.{paired, word_of, slots_of, with_slots, with_order}
use Rattle.state.specs.Seats.{lowest_free, least_by, without, renewed}
use Rattle.state.specs.Internal.Seats.{first_at}
use Rattle.voice.specs.Changes.{sounds}
use Rattle.state.specs.Quiet.{changed}
use Rattle.state.specs.declared.Engine.{Engine}
use Rattle.state.proofs.SlotLoopLaws.{voices-back, voices-set}
use Rattle.arith.proofs.WordsLaws.{flags_of, ones-flags, count_map}
use Rattle.voice.specs.declared.Slot.{Slot}
use Rattle.arith.specs.Lists.{count_if}
use Rattle.state.specs.Board.{voice_count}

-- the lowest free slot is the lowest clear bit
pub lowest-free : (w : ℕ) (vs : List Voice) → lowest_free (paired w vs) ≡ lowest_clear (length vs) w
unfolding paired lowest_free lowest_clear
lowest-free w [] = refl
lowest-free w (v ∷ vs) = ap (λ (n : ℕ). cond (eqb (w % 2) 1) (suc n) 0) (lowest-free (w / 2) vs)

least-snoc : (f : ℕ → ℕ) (b : ℕ) (xs : List ℕ) (x : ℕ)
    → least_by f b (xs ++ (x ∷ [])) ≡ cond (ltb (f x) (f (least_by f b xs))) x (least_by f b xs)
unfolding least_by
least-snoc f b [] x = refl
least-snoc f b (y ∷ xs) x = least-snoc f (cond (ltb (f y) (f b)) y b) xs x

-- before the first turn along the order, and a turn
pub least-none : (f : ℕ → ℕ) (b : ℕ) (xs : List ℕ) → least_by f b (take 0 xs) ≡ b
unfolding least_by
least-none f b xs = refl

-- place k is looked at
pub least-turn : (f : ℕ → ℕ) (b : ℕ) (xs : List ℕ) (k : ℕ) → k < length xs
    → least_by f b (take (k + 1) xs) ≡ cond (ltb (f (get_or xs k 0)) (f (least_by f b (take k xs)))) (get_or xs k 0) (least_by f b (take k xs))
least-turn f b xs k h = rw (add-one, take-suc xs k 0 h) (least-snoc f b (take k xs) (get_or xs k 0))

-- it stands within the list, or behind it
pub first-le : (i : ℕ) (xs : List ℕ) → first_at i xs ≤ length xs
unfolding first_at
first-le i [] = omega arith
first-le i (x ∷ xs) = by (eqb x i) (first-le i xs)
  where
    by : (b : Bool) → first_at i xs ≤ length xs → cond b 0 (suc (first_at i xs)) ≤ suc (length xs)
    by true h = omega arith
    by false h = omega arith

-- a search that has come to k: it stands there, or behind
pub first-here : (i : ℕ) (xs : List ℕ) (k : ℕ) → k < length xs → k ≤ first_at i xs → get_or xs k 0 ≡ i → first_at i xs ≡ k
unfolding first_at
first-here i [] k h g e = absurd (not-suc-le-zero h)
first-here i (x ∷ xs) zero h g e = simp (eq-eqb x i e)
first-here i (x ∷ xs) (suc k) h g e = by (λ q. first-here i xs k (le_of_suc-le-suc h) q e) (eqb x i) g
  where
    by : (k ≤ first_at i xs → first_at i xs ≡ k) → (b : Bool) → suc k ≤ cond b 0 (suc (first_at i xs)) → cond b 0 (suc (first_at i xs)) ≡ suc k
    by ih true g = absurd (not-suc-le-zero g)
    by ih false g = ap suc (ih (le_of_suc-le-suc g))

-- it does not stand at k: it stands behind
pub first_on : (i : ℕ) (xs : List ℕ) (k : ℕ) → k < length xs → k ≤ first_at i xs → (get_or xs k 0 ≡ i → ⊥) → suc k ≤ first_at i xs
unfolding first_at
first_on i [] k h g e = absurd (not-suc-le-zero h)
first_on i (x ∷ xs) zero h g e = simp (ne_eqb x i e) (omega arith)
first_on i (x ∷ xs) (suc k) h g e = by (λ q. first_on i xs k (le_of_suc-le-suc h) q e) (eqb x i) g
  where
    by : (k ≤ first_at i xs → suc k ≤ first_at i xs) → (b : Bool) → suc k ≤ cond b 0 (suc (first_at i xs)) → suc (suc k) ≤ cond b 0 (suc (first_at i xs))
    by ih true g = absurd (not-suc-le-zero g)
    by ih false g = let q = ih (le_of_suc-le-suc g) in omega arith

-- i moved behind all others, place by place
behind-at : (i : ℕ) (xs : List ℕ) (k : ℕ) → k < length xs
    → get_or (without i xs ++ (i ∷ [])) k 0 ≡ cond (ltb k (first_at i xs)) (get_or xs k 0) (get_or (xs ++ (i ∷ [])) (suc k) 0)
unfolding without first_at
behind-at i [] k h = absurd (not-suc-le-zero h)
behind-at i (x ∷ xs) k h = by (λ j q. behind-at i xs j q) (eqb x i) k h
  where
    by : ((j : ℕ) → j < length xs → get_or (without i xs ++ (i ∷ [])) j 0 ≡ cond (ltb j (first_at i xs)) (get_or xs j 0) (get_or (xs ++ (i ∷ [])) (suc j) 0))
        → (b : Bool) (k : ℕ) → k < suc (length xs)
        → get_or (cond b xs (x ∷ without i xs) ++ (i ∷ [])) k 0
        ≡ cond (ltb k (cond b 0 (suc (first_at i xs)))) (get_or (x ∷ xs) k 0) (get_or (x ∷ (xs ++ (i ∷ []))) (suc k) 0)
    by ih true k h = simp (le-ltb k 0 (omega arith))
    by ih false zero h = simp (lt-ltb 0 (suc (first_at i xs)) (omega arith))
    by ih false (suc k) h = rw (leb-suc-suc (suc k) (first_at i xs)) (ih k (le_of_suc-le-suc h))

without-length : (i : ℕ) (xs : List ℕ) → length xs ≤ length (without i xs) + 1
unfolding without
without-length i [] = omega arith
without-length i (x ∷ xs) = by (eqb x i) (without-length i xs)
  where
    by : (b : Bool) → length xs ≤ length (without i xs) + 1 → suc (length xs) ≤ length (cond b xs (x ∷ without i xs)) + 1
    by true h = omega arith
    by false h = omega arith

-- the renewed order is as long as the order
pub renewed-length : (i : ℕ) (xs : List ℕ) → length xs ≡ 32 → length (renewed i xs) ≡ 32
unfolding renewed
renewed-length i xs n = simp (length-take, length-append) (omega (arith, without-length i xs))

-- the renewed order: in front of where i stood as it was, then each the next, then i
pub renewed-at : (i : ℕ) (xs : List ℕ) (k : ℕ) → length xs ≡ 32 → k < 32
    → get_or (renewed i xs) k 0 ≡ cond (ltb k (first_at i xs)) (get_or xs k 0) (get_or (xs ++ (i ∷ [])) (k + 1) 0)
unfolding renewed
renewed-at i xs k n h =
    get_or-take 32 (without i xs ++ (i ∷ [])) k 0 h ∙ behind-at i xs k (omega arith)
    ∙ ap (λ (j : ℕ). cond (ltb k (first_at i xs)) (get_or xs k 0) (get_or (xs ++ (i ∷ [])) j 0)) (sym (add-one k))

-- a list filled place by place from another
pub fill-turn : (xs ys : List ℕ) (k a : ℕ) → k < length xs → k < length ys → take k xs ≡ take k ys → a ≡ get_or ys k 0
    → take (k + 1) (set xs k a) ≡ take (k + 1) ys
fill-turn xs ys k a h g e q =
    rw (add-one, take-suc-set xs k a h, take-suc ys k 0 g) (ap₂ (λ (l : List ℕ) (x : ℕ). l ++ (x ∷ [])) e q)

-- the lowest bit, as a flag and back
low_bit : (n : ℕ) → cond (eqb (n % 2) 1) 1 0 ≡ n % 2
low_bit n = by (n % 2) (omega arith)
  where
    by : (d : ℕ) → d < 2 → cond (eqb d 1) 1 0 ≡ d
    by zero h = refl
    by (suc zero) h = refl
    by (suc (suc d)) h = absurd (not-suc-le-zero (le_of_suc-le-suc (le_of_suc-le-suc h)))

-- the word of the slots of a word
pub word_back : (w : ℕ) (vs : List Voice) → w < 2 ^ length vs → word_of (paired w vs) ≡ w
unfolding paired word_of
word_back w [] h = omega (arith, pow-zero 2)
word_back w (v ∷ vs) h = omega (arith, low_bit w, word_back (w / 2) vs (omega (arith, pow-suc 2 (length vs))))

-- the word with one slot more
pub word-joined : (w : ℕ) (vs : List Voice) (i : ℕ) (v : Voice) → w < 2 ^ length vs → i < length vs
    → word_of (set (paired w vs) i (sounds v)) ≡ bit_or w (2 ^ i)
unfolding paired word_of
word-joined w [] i v h g = absurd (not-suc-le-zero g)
word-joined w (x ∷ vs) zero v h g =
    let b = word_back (w / 2) vs (omega (arith, pow-suc 2 (length vs))) in
    let z = or_zero_r (w / 2) in
    let s : bit_or w 1 ≡ bit_or (w / 2) 0 * 2 + max (w % 2) 1 = or_step w 1 in
    let m : max (w % 2) 1 ≡ 1 = omega arith in
    omega (arith, b, z, s, m)
word-joined w (x ∷ vs) (suc i) v h g =
    let b = word-joined (w / 2) vs i v (omega (arith, pow-suc 2 (length vs))) (le_of_suc-le-suc g) in
    let p = pow-suc 2 i in
    let half : 2 ^ suc i / 2 ≡ 2 ^ i = omega arith in
    let even : 2 ^ suc i % 2 ≡ 0 = omega arith in
    let s = or_step w (2 ^ suc i) in
    let t : bit_or w (2 ^ suc i) ≡ bit_or (w / 2) (2 ^ i) * 2 + max (w % 2) 0 = s ∙ ap₂ (λ (a c : ℕ). bit_or (w / 2) a * 2 + max (w % 2) c) half even in
    omega (arith, b, t, low_bit w)

-- a state with a voice started in slot i
pub seated : (e : Engine) (i word : ℕ) (v : Voice) (o : List ℕ) → e.sounding < 2 ^ length e.voices → i < length e.voices
    → word ≡ bit_or e.sounding (2 ^ i)
    → changed e (set e.voices i v) e.channels word o e.clock
    ≡ with_order (with_slots e (set (slots_of e) i (sounds v))) o
seated e i word v o h g q =
    ap₂ state
    (ap (λ (vs : List Voice). set vs i v) (sym (voices-back e.sounding e.voices)) ∙ sym (voices-set (slots_of e) i (sounds v)))
    (q ∙ sym (word-joined e.sounding e.voices i v h g))
  where
    state : List Voice → ℕ → Engine
    state vs w = changed e vs e.channels w o e.clock

flags-slots : (w : ℕ) (vs : List Voice) → map (λ (s : Slot). s.sounding) (paired w vs) ≡ flags_of (length vs) w
unfolding paired flags_of
flags-slots w [] = refl
flags-slots w (v ∷ vs) = ap (◌∷◌ (eqb (w % 2) 1)) (flags-slots (w / 2) vs)

-- the ones of the word are the voices that sound
pub ones-voices : (e : Engine) → e.sounding < 2 ^ length e.voices → ones e.sounding ≡ voice_count e
unfolding voice_count
ones-voices e h =
    ones-flags (length e.voices) e.sounding h
    ∙ sym (count_map (λ (s : Slot). s.sounding) (slots_of e) ∙ ap (count_if (λ (b : Bool). b)) (flags-slots e.sounding e.voices))
