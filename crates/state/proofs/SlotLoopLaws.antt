-- Loops over the slots: a turn reads slot i by its bit and its record, and adds its flag to the word that is built anew.
use Prim.Native.Nat.{ℕ, zero, suc, ◌/◌, ◌<◌, ◌+◌, ◌*◌, ◌^◌, ◌≤◌}
use mathlib.Core.Path.{◌≡◌, sym, ap, ◌∙◌, refl, subst}
use mathlib.Core.Bool.{Bool, true, false, cond}
use mathlib.Core.List.{List, [], ◌∷◌, map, ◌++◌}
use native.Mathlib.Nat.{not-suc-le-zero, le_of_suc-le-suc, pow-suc, pow-zero}
use lib.Dec.{eqb}
use lib.ListN.{length, get_or, take, length-map, set}
use native.Mathlib.Omega.{arith}
use native.Mathlib.Numerals.{add-one}
use lib.Seq.{take-suc, length-take-le}
use lib.Pow.{pow_mono}
use Rattle.arith.specs.Words.{bit}
use Rattle.arith.proofs.WordsLaws.{bit-zero, bit-suc}
use Rattle.voice.specs.declared.Voice.{Voice}
use Rattle.voice.specs.declared.Slot.{Slot}
use Rattle.voice.specs.Changes.{blank, free}
use Rattle.state.specs.Slots.{paired, records_of, word_of, slots_of, with_slots, cut, of_channel}
use Rattle.state.proofs.SlotsLaws.{map_at}
use Rattle.state.specs.Quiet.{changed}
use Rattle.state.specs.declared.Engine.{Engine}
use Rattle.arith.proofs.Loops.{upto, upto-at, step_set, upto_all}
use Rattle.state.specs.Internal.Slots.{with_word}

-- slot i, by its bit and its record
pub paired_at : (w : ℕ) (vs : List Voice) (i : ℕ) → i < length vs
    → get_or (paired w vs) i (free blank) ≡ record { sounding = eqb (bit w i) 1; voice = get_or vs i blank }
unfolding paired
paired_at w [] i h = absurd (not-suc-le-zero h)
paired_at w (v ∷ vs) zero h = ap (λ (b : ℕ). slot (eqb b 1)) (sym (bit-zero w))
  where
    slot : Bool → Slot
    slot b = record { sounding = b; voice = v }
paired_at w (v ∷ vs) (suc i) h = paired_at (w / 2) vs i (le_of_suc-le-suc h) ∙ ap (λ (b : ℕ). slot (eqb b 1)) (sym (bit-suc w i))
  where
    slot : Bool → Slot
    slot b = record { sounding = b; voice = get_or vs i blank }

-- as many slots as records
pub paired-length : (w : ℕ) (vs : List Voice) → length (paired w vs) ≡ length vs
unfolding paired
paired-length w [] = refl
paired-length w (v ∷ vs) = ap suc (paired-length (w / 2) vs)

-- the records of the slots are the state's
pub voices-back : (w : ℕ) (vs : List Voice) → records_of (paired w vs) ≡ vs
unfolding paired
voices-back w [] = refl
voices-back w (v ∷ vs) = ap (◌∷◌ v) (voices-back (w / 2) vs)

-- f that keeps the records
pub same-voices : (f : Slot → Slot) → ((s : Slot) → (f s).voice ≡ s.voice) → (ss : List Slot) → records_of (map f ss) ≡ records_of ss
same-voices f k [] = refl
same-voices f k (s ∷ ss) = rw (k s) (ap (◌∷◌ s.voice) (same-voices f k ss))

-- the word of one slot more
word-snoc : (ss : List Slot) (s : Slot) → word_of (ss ++ (s ∷ [])) ≡ word_of ss + cond s.sounding (2 ^ length ss) 0
unfolding word_of
word-snoc [] s = by s.sounding
  where
    by : (b : Bool) → cond b 1 0 + 2 * 0 ≡ 0 + cond b (2 ^ 0) 0
    by true = refl
    by false = refl
word-snoc (x ∷ ss) s = rw (word-snoc ss s) (by (cond x.sounding 1 0) (word_of ss) s.sounding)
  where
    by : (a w : ℕ) (b : Bool) → a + 2 * (w + cond b (2 ^ length ss) 0) ≡ a + 2 * w + cond b (2 ^ suc (length ss)) 0
    by a w true = omega (arith, pow-suc 2 (length ss))
    by a w false = omega arith

-- the word has no bit past the last slot
pub word_lt : (ss : List Slot) → word_of ss < 2 ^ length ss
unfolding word_of
word_lt [] = omega (arith, pow-zero 2)
word_lt (s ∷ ss) = by s.sounding (word_lt ss)
  where
    by : (b : Bool) → word_of ss < 2 ^ length ss → cond b 1 0 + 2 * word_of ss < 2 ^ suc (length ss)
    by true h = omega (arith, pow-suc 2 (length ss))
    by false h = omega (arith, pow-suc 2 (length ss))

-- the word of the first i slots, each gone through f
unfoldable pub word_to : (Slot → Slot) → ℕ → List Slot → ℕ
word_to f i ss = word_of (take i (map f ss))

-- before the first turn
pub word_none : (f : Slot → Slot) (ss : List Slot) → word_to f 0 ss ≡ 0
unfolding word_to word_of
word_none f ss = refl

-- a turn adds the flag of slot i
pub word-turn : (f : Slot → Slot) (ss : List Slot) (i : ℕ) → f (free blank) ≡ free blank → i < length ss
    → word_to f (i + 1) ss ≡ word_to f i ss + cond (f (get_or ss i (free blank))).sounding (2 ^ i) 0
unfolding word_to
word-turn f ss i k h =
    let l : length (map f ss) ≡ length ss = simp length-map in
    let t : length (take i (map f ss)) ≡ i = length-take-le i (map f ss) (omega arith) in
    let m = map_at f ss i (free blank) k in
    rw (add-one, take-suc (map f ss) i (free blank) (omega arith))
    (word-snoc (take i (map f ss)) (get_or (map f ss) i (free blank))
    ∙ ap (λ (j : ℕ). word_of (take i (map f ss)) + cond (get_or (map f ss) i (free blank)).sounding (2 ^ j) 0) t
    ∙ ap (λ (s : Slot). word_of (take i (map f ss)) + cond s.sounding (2 ^ i) 0) m)

-- after i turns it has no bit past them, so adding a flag cannot carry
pub word-to-lt : (f : Slot → Slot) (ss : List Slot) (i : ℕ) → i ≤ length ss → word_to f i ss < 2 ^ i
unfolding word_to
word-to-lt f ss i h =
    let l : length (map f ss) ≡ length ss = simp length-map in
    let t : length (take i (map f ss)) ≡ i = length-take-le i (map f ss) (omega arith) in
    subst (λ (j : ℕ). word_of (take i (map f ss)) < 2 ^ j) t (word_lt (take i (map f ss)))

-- all turns
pub word-all : (f : Slot → Slot) (ss : List Slot) (n : ℕ) → length ss ≡ n → word_to f n ss ≡ word_of (map f ss)
unfolding word_to
word-all f ss n h = ap word_of (whole (map f ss) n (simp length-map h))
  where
    whole : (xs : List Slot) (n : ℕ) → length xs ≡ n → take n xs ≡ xs
    whole [] zero e = refl
    whole [] (suc n) e = refl
    whole (x ∷ xs) zero e = absurd (native.Mathlib.Nat.suc-ne-zero (length xs) e)
    whole (x ∷ xs) (suc n) e = ap (◌∷◌ x) (whole xs n (native.Mathlib.Nat.suc_inj e))

-- the word that a turn leaves: it read t, and added b, its flag
pub flag-turn : (f : Slot → Slot) (ss : List Slot) (i word b : ℕ) (t : Slot) → f (free blank) ≡ free blank → i < length ss
    → word ≡ word_to f i ss → t ≡ f (get_or ss i (free blank)) → b ≡ cond t.sounding (2 ^ i) 0 → word + b ≡ word_to f (i + 1) ss
flag-turn f ss i word b t k h w e q =
    ap (λ (x : ℕ). x + b) w
    ∙ ap (◌+◌ (word_to f i ss)) (q ∙ ap (λ (s : Slot). cond s.sounding (2 ^ i) 0) e)
    ∙ sym (word-turn f ss i k h)

-- it fits the word
pub word_fits : (f : Slot → Slot) (ss : List Slot) (i : ℕ) → length ss ≡ 32 → i ≤ 32 → word_to f i ss < 4294967296
word_fits f ss i n h =
    let p : 2 ^ i ≤ 2 ^ 32 = pow_mono {i = i} {j = 32} h in
    omega (arith, word-to-lt f ss i (omega arith), p)

-- the state with other records
abbrev pub with_voices : Engine → List Voice → Engine
with_voices e vs =
    changed e vs e.channels e.sounding e.order e.clock

-- the records of the slots, one of them set
pub voices-set : (ss : List Slot) (i : ℕ) (s : Slot) → records_of (set ss i s) ≡ set (records_of ss) i s.voice
voices-set [] i s = refl
voices-set (x ∷ ss) zero s = refl
voices-set (x ∷ ss) (suc i) s = ap (◌∷◌ x.voice) (voices-set ss i s)

-- the records that a turn leaves: it read t, and stored its record
pub store-turn : (f : Slot → Slot) (ss : List Slot) (e x : Engine) (i : ℕ) (t : Slot) → i < length ss
    → x ≡ with_voices e (records_of (upto f i ss)) → t ≡ f (get_or ss i (free blank))
    → with_voices x (set x.voices i t.voice) ≡ with_voices e (records_of (upto f (i + 1) ss))
store-turn f ss e x i t h p q =
    ap (λ (y : Engine). with_voices y (set y.voices i t.voice)) p
    ∙ ap (with_voices e)
    (sym (voices-set (upto f i ss) i t) ∙ ap records_of (step_set f ss i (free blank) t h (q ∙ ap f (sym (upto-at f ss i (free blank))))))

-- before the first turn
pub store-none : (f : Slot → Slot) (e : Engine) → e ≡ with_voices e (records_of (upto f 0 (slots_of e)))
unfolding upto
store-none f e = ap (with_voices e) (sym (voices-back e.sounding e.voices))

-- behind the last turn
pub store-all : (f : Slot → Slot) (e x : Engine) (word i : ℕ) → length (slots_of e) ≡ 32 → i ≡ 32
    → x ≡ with_voices e (records_of (upto f i (slots_of e))) → word ≡ word_to f i (slots_of e) → with_word x word ≡ with_slots e (map f (slots_of e))
store-all f e x word i n h p q =
    ap (λ (y : Engine). with_word y word) (p ∙ ap (λ (j : ℕ). with_voices e (records_of (upto f j (slots_of e)))) h ∙ ap (λ (ss : List Slot). with_voices e (records_of ss)) (upto_all f (slots_of e) 32 n))
    ∙ ap (λ (w : ℕ). with_word (with_voices e (records_of (map f (slots_of e)))) w) (q ∙ ap (λ (j : ℕ). word_to f j (slots_of e)) h ∙ word-all f (slots_of e) 32 n)

-- a state whose records stay and whose word is built anew
pub rebuilt : (e : Engine) (ss : List Slot) → records_of ss ≡ e.voices → with_word e (word_of ss) ≡ with_slots e ss
rebuilt e ss h = ap with (sym h)
  where
    with : List Voice → Engine
    with vs = changed e vs e.channels (word_of ss) e.order e.clock

-- freeing keeps the record, and a free slot
pub cut-voice : (p : Slot → Bool) (s : Slot) → (cut p s).voice ≡ s.voice
unfolding cut
cut-voice p s = by (p s)
  where
    by : (b : Bool) → (cond b (free s.voice) s).voice ≡ s.voice
    by true = refl
    by false = refl

-- a free slot stays free under control 120
pub cut-free : (channel : ℕ) (v : Voice) → cut (of_channel channel) (free v) ≡ free v
unfolding cut of_channel
cut-free channel v = refl

-- a turn that frees slot i where a test picks it: it read s, tested it, and made t of it
pub cut-turn : (p : Slot → Bool) (ss : List Slot) (i word b : ℕ) (picked : Bool) (s t : Slot) → cut p (free blank) ≡ free blank → i < length ss
    → word ≡ word_to (cut p) i ss → s ≡ get_or ss i (free blank) → picked ≡ p s → t ≡ cond picked (free s.voice) s
    → b ≡ cond t.sounding (2 ^ i) 0 → word + b ≡ word_to (cut p) (i + 1) ss
unfolding cut
cut-turn p ss i word b picked s t k h w e q m = flag-turn (cut p) ss i word b t k h w
    (m ∙ ap (λ (x : Bool). cond x (free s.voice) s) q ∙ ap (cut p) e)

-- behind the last turn of such a loop: the records stay
pub cut_all : (p : Slot → Bool) (e : Engine) (word i : ℕ) → length (slots_of e) ≡ 32 → i ≡ 32 → word ≡ word_to (cut p) i (slots_of e)
    → with_word e word ≡ with_slots e (map (cut p) (slots_of e))
cut_all p e word i n h w =
    ap (with_word e) (w ∙ ap (λ (j : ℕ). word_to (cut p) j (slots_of e)) h ∙ word-all (cut p) (slots_of e) 32 n)
    ∙ rebuilt e (map (cut p) (slots_of e)) (same-voices (cut p) (cut-voice p) (slots_of e) ∙ voices-back e.sounding e.voices)
