-- Loops that fill a list from the front, and the bytes of numbers, one number more.
use mathlib.Core.Path.{◌≡◌, refl, sym, ap, ap₂, ◌∙◌, subst}
use mathlib.Core.Bool.{Bool, true, false, not, ◌||◌, or-true}
use mathlib.Core.Logic.{inl, inr}
use mathlib.Core.List.{List, [], ◌∷◌, ◌++◌, append_assoc, append-nil}
use Prim.Native.Nat.{ℕ, zero, suc, ◌+◌, ◌*◌, ◌/◌, ◌%◌, ◌≤◌, ◌<◌}
use native.Mathlib.Nat.{add-zero, eq-zero-or-pos, zero-add, not-suc-le-zero, le_of_suc-le-suc, mod-eq_of_lt}
use native.Mathlib.Numerals.{add-one}
use native.Mathlib.Omega.{arith}
use borrow.Author.Tests.{eq-eqb, eqb-false, le-ltb, lt-ltb, not-false}
use lib.Dec.{T, eqb}
use lib.Ieee.{Float, nan}
use lib.IntN.{ℤ, pos, negsuc}
use lib.ListN.{length, get_or, set, take, drop, length-append, take-append-drop}
use lib.Seq.{length-take-le, take-suc}
use Rattle.arith.proofs.Put.{put, put2}
use Rattle.arith.specs.Floors.{mod_z}
use Rattle.arith.specs.Lists.{any_of}
use Rattle.std.specs.List.{list_any}
use Rattle.wave.specs.Headings.{in_two}
use Rattle.wave.specs.Pcm.{is_output, pcm_of}
use Rattle.wave.specs.Pours.{is_broken, is_other, pcm_bytes, poured_into, poured_of, pour_number}

-- a turn that copies one more element of xs to the front of d
pub copy-turn : {A : Type 0} (xs d : List A) (i : ℕ) (z : A) → i < length xs → i < length d
    → set (take i xs ++ drop i d) i (get_or xs i z) ≡ take (i + 1) xs ++ drop (i + 1) d
copy-turn xs d i z h l =
    put (take i xs) d i (get_or xs i z) z (length-take-le i xs (omega (arith, h))) l
    ∙ ap (λ t. t ++ drop (i + 1) d) (sym (take-suc xs i z h) ∙ ap (λ (j : ℕ). take j xs) (sym (add-one i)))

-- the bytes of numbers in two runs
pub poured-append : (xs ys : List Float) → poured_of (xs ++ ys) ≡ poured_of xs ++ poured_of ys
unfolding poured_of
poured-append [] ys = refl
poured-append (x ∷ xs) ys = ap (λ (l : List ℕ). pcm_bytes x ++ l) (poured-append xs ys)

-- two for each
pub poured-length : (xs : List Float) → length (poured_of xs) ≡ 2 * length xs
unfolding poured_of
poured-length [] = refl
poured-length (x ∷ xs) = let e : length (poured_of xs) ≡ 2 * length xs = poured-length xs in omega (arith, e)

-- one number more
poured-more : (xs : List Float) (i : ℕ) → i < length xs → poured_of (take (i + 1) xs) ≡ poured_of (take i xs) ++ pcm_bytes (get_or xs i nan)
unfolding poured_of
poured-more xs i h =
    ap poured_of (ap (λ (j : ℕ). take j xs) (add-one i) ∙ take-suc xs i nan h) ∙ poured-append (take i xs) (get_or xs i nan ∷ [])
    ∙ ap (λ (l : List ℕ). poured_of (take i xs) ++ l) (append-nil (pcm_bytes (get_or xs i nan)))

-- the high byte of a number of 16 bits needs no remainder
pub high_byte : (w : ℕ) → w < 65536 → w / 256 % 256 ≡ w / 256
high_byte w h = mod-eq_of_lt (omega (arith, h))

-- a number modulo 2^16 is one of 16 bits
pub word_lt : (z : ℤ) → mod_z z 65536 < 65536
unfolding mod_z
word_lt (pos a) = omega arith
word_lt (negsuc a) = omega arith

-- what stands in the output when the first i numbers are poured from a place on
abbrev pub poured_upto : List Float → ℕ → List ℕ → ℕ → List ℕ
poured_upto xs from d i = (take from d ++ poured_of (take i xs)) ++ drop (from + 2 * i) d

-- before the first turn, what stood there
pub poured-none : (xs : List Float) (from : ℕ) (d : List ℕ) → d ≡ poured_upto xs from d 0
unfolding poured_of
poured-none xs from d =
    sym (ap (λ (l : List ℕ). l ++ drop (from + 0) d) (append-nil (take from d))
    ∙ ap (λ (k : ℕ). take from d ++ drop k d) (add-zero from) ∙ take-append-drop from d)

front_length : (xs : List Float) (from : ℕ) (d : List ℕ) (i : ℕ) → i ≤ length xs → from ≤ length d → length (take from d ++ poured_of (take i xs)) ≡ from + 2 * i
front_length xs from d i h l =
    length-append (take from d) (poured_of (take i xs))
    ∙ ap₂ ◌+◌ (length-take-le from d l) (poured-length (take i xs) ∙ ap (λ (k : ℕ). 2 * k) (length-take-le i xs h))

-- a turn: the two bytes of the next number, w
pub pour-turn : (xs : List Float) (from : ℕ) (d : List ℕ) (i w : ℕ) → i < length xs → from + 2 * length xs ≤ length d
    → w ≡ mod_z (pcm_of (get_or xs i nan)) 65536
    → set (set (poured_upto xs from d i) (from + 2 * i) (w % 256)) (from + 2 * i + 1) (w / 256) ≡ poured_upto xs from d (i + 1)
pour-turn xs from d i w h room e =
    let p = take from d ++ poured_of (take i xs) in
    let k = from + 2 * i in
    let further : k + 2 ≡ from + 2 * (i + 1) = omega arith in
    put2 p d k (w % 256) (w / 256) 0 (front_length xs from d i (omega (arith, h)) (omega (arith, room))) (omega (arith, h, room))
    ∙ ap₂ (λ (l : List ℕ) (j : ℕ). l ++ drop j d)
    (append_assoc (take from d) (poured_of (take i xs)) ((w % 256) ∷ (w / 256) ∷ [])
    ∙ ap (λ (l : List ℕ). take from d ++ l)
    (ap (λ (l : List ℕ). poured_of (take i xs) ++ l)
    (ap (λ (b : ℕ). (w % 256) ∷ b ∷ []) (sym (high_byte w (subst (λ (v : ℕ). v < 65536) (sym e) (word_lt (pcm_of (get_or xs i nan)))))) ∙ ap in_two e)
    ∙ sym (poured-more xs i h)))
    further

-- neither of two
pub neither : (a b : Bool) → (a || b) ≡ false → (a ≡ false) × (b ≡ false)
neither true b h = absurd (subst T h tt)
neither false b h = (refl, h)

-- numbers that are not broken are all output numbers
pub clean_of : (xs : List Float) → is_broken xs ≡ false → any_of is_other xs ≡ false
unfolding is_broken
clean_of xs h = (neither (eqb (length xs % 2) 1) (any_of is_other xs) h).1

-- where none is another number, each is an output number
pub output-at : (xs : List Float) (i : ℕ) → any_of is_other xs ≡ false → i < length xs → is_output (get_or xs i nan) ≡ true
output-at [] i n h = absurd (not-suc-le-zero h)
output-at (x ∷ xs) zero n h = not-false (is_output x) (neither (is_other x) (any_of is_other xs) n).0
output-at (x ∷ xs) (suc i) n h = output-at xs i (neither (is_other x) (any_of is_other xs) n).1 (le_of_suc-le-suc h)

-- one that is another number
pub other_at : (xs : List Float) (i : ℕ) → is_output (get_or xs i nan) ≡ false → i < length xs → any_of is_other xs ≡ true
other_at [] i e h = absurd (not-suc-le-zero h)
other_at (x ∷ xs) zero e h = ap (λ (b : Bool). not b || any_of is_other xs) e
other_at (x ∷ xs) (suc i) e h = ap (λ (b : Bool). is_other x || b) (other_at xs i e (le_of_suc-le-suc h)) ∙ or-true (is_other x)

-- ---- the answers of `pour`

-- an even count, where nothing is broken
pub even : (xs : List Float) → is_broken xs ≡ false → length xs % 2 ≡ 0
unfolding is_broken
even xs e = elim (eq-zero-or-pos (length xs % 2)) [
  | inl z ↦ z
  | inr p ↦ absurd (eqb-false (length xs % 2) 1 (neither (eqb (length xs % 2) 1) (any_of is_other xs) e).0 (omega (arith, p)))
]

pub pour-13 : (xs : List Float) (room : ℕ) → is_broken xs ≡ true → pour_number xs room ≡ 13
unfolding pour_number
pour-13 xs room a = rw a

pub pour-15 : (xs : List Float) (room : ℕ) → is_broken xs ≡ false → room < 2 * length xs → pour_number xs room ≡ 15
unfolding pour_number
pour-15 xs room a b = rw (a, lt-ltb room (2 * length xs) b)

pub pour-0 : (xs : List Float) (room : ℕ) → is_broken xs ≡ false → 2 * length xs ≤ room → pour_number xs room ≡ 0
unfolding pour_number
pour-0 xs room a b = rw (a, le-ltb room (2 * length xs) b)

pub poured-0 : (xs : List Float) (out : List ℕ) → pour_number xs (length out) ≡ 0 → poured_into xs out ≡ poured_of xs ++ drop (2 * length xs) out
unfolding poured_into
poured-0 xs out h = rw (eq-eqb (pour_number xs (length out)) 0 h)

pub pour-broken : (xs : List Float) (out : List ℕ) → is_broken xs ≡ true → (13 ≡ pour_number xs (length out)) × (out ≡ poured_into xs out)
unfolding poured_into
pour-broken xs out e = let n = pour-13 xs (length out) e in (sym n, rw n refl)

pub pour-short : (xs : List Float) (out : List ℕ) → is_broken xs ≡ false → length out < 2 * length xs → (15 ≡ pour_number xs (length out)) × (out ≡ poured_into xs out)
unfolding poured_into
pour-short xs out e h = let n = pour-15 xs (length out) e h in (sym n, rw n refl)

pub pour-done : (xs : List Float) (out o : List ℕ) → is_broken xs ≡ false → 2 * length xs ≤ length out
    → o ≡ (take 0 out ++ poured_of xs) ++ drop (0 + 2 * length xs) out → (0 ≡ pour_number xs (length out)) × (o ≡ poured_into xs out)
pour-done xs out o e h q =
    let n = pour-0 xs (length out) e h in
    (sym n, q ∙ ap (λ (k : ℕ). poured_of xs ++ drop k out) (zero-add (2 * length xs)) ∙ sym (poured-0 xs out n))

-- whether one of the numbers is none, by the library's word
pub any_is : (xs : List Float) → list_any is_other xs ≡ any_of is_other xs
any_is [] = refl
any_is (x ∷ xs) = ap (λ (b : Bool). is_other x || b) (any_is xs)
