-- Bytes that are the same, and the 16-bit numbers of bytes.
use mathlib.Core.Path.{◌≡◌, refl, sym, ap, ◌∙◌, subst}
use borrow.Author.Tests.{eq-eqb, eqb-true, le-leb, le-ltb, lt-leb, lt-ltb, ne_eqb}
use mathlib.Core.Bool.{Bool, true, false, ◌&&◌, and-false, true≢false}
use mathlib.Core.List.{List, [], ◌∷◌, ◌++◌}
use Prim.Native.Nat.{ℕ, zero, suc, ◌+◌, ◌-◌, ◌*◌, ◌/◌, ◌%◌, ◌≤◌, ◌<◌}
use native.Mathlib.Nat.{lt_irrefl, not-suc-le-zero}
use native.Mathlib.Omega.{arith}
use lib.Dec.{T, eqb, eqb→eq, leb, leb→le}
use lib.Ieee.Fits.{and_l, and_r}
use lib.IntN.{ℤ}
use lib.ListN.{length, get_or, take, drop, length-drop}
use lib.Seq.{get_or-drop}
use mir.Syntax.{w16}
use mir.Val.{to_z}
use Rattle.arith.specs.Bytes.{u8_at, u16_at}
use Rattle.wave.specs.Headings.{heading_of, most_frames}
use Rattle.wave.proofs.PcmLaws.{both}
use Rattle.wave.specs.Playback.{frames_in, heard_of, is_recording, pcms_in, read_number, replayed, same_bytes}

-- bytes that are the same are one list
pub same-eq : (xs ys : List ℕ) → same_bytes xs ys ≡ true → xs ≡ ys
unfolding same_bytes
same-eq [] [] h = refl
same-eq [] (y ∷ ys) h = absurd (true≢false (sym h))
same-eq (x ∷ xs) [] h = absurd (true≢false (sym h))
same-eq (x ∷ xs) (y ∷ ys) h =
    let two = both (eqb x y) (same_bytes xs ys) h in
    rw (eqb-true x y two.0) (ap (◌∷◌ y) (same-eq xs ys two.1))

-- bytes are the same as themselves
pub same_refl : (xs : List ℕ) → same_bytes xs xs ≡ true
unfolding same_bytes
same_refl [] = refl
same_refl (x ∷ xs) = rw (eq-eqb x x refl) (same_refl xs)

-- one byte that differs
pub differ-at : (xs ys : List ℕ) (i d : ℕ) → (get_or xs i d ≡ get_or ys i d → ⊥) → false ≡ same_bytes xs ys
differ-at xs ys i d n = go (same_bytes xs ys) (λ e. n (ap (λ (l : List ℕ). get_or l i d) (same-eq xs ys e)))
  where
    go : (b : Bool) → (b ≡ true → ⊥) → false ≡ b
    go true n = absurd (n refl)
    go false n = refl

-- one number for each two bytes
pub pcms-length : (b : List ℕ) → length (pcms_in b) ≡ length b / 2
unfolding pcms_in
pcms-length [] = refl
pcms-length (low ∷ []) = refl
pcms-length (low ∷ high ∷ b) = let e : length (pcms_in b) ≡ length b / 2 = pcms-length b in omega (arith, e)

pub pcms-get : (b : List ℕ) (i : ℕ) (z : ℤ) → 2 * i + 1 < length b → get_or (pcms_in b) i z ≡ to_z w16 (get_or b (2 * i) 0 + get_or b (2 * i + 1) 0 * 256)
unfolding pcms_in
pcms-get [] i z h = absurd (not-suc-le-zero h)
pcms-get (low ∷ []) i z h = absurd (lt_irrefl 0 (omega (arith, h)))
pcms-get (low ∷ high ∷ b) zero z h = refl
pcms-get (low ∷ high ∷ b) (suc i) z h =
    let e : 2 * suc i ≡ suc (suc (2 * i)) = omega arith in
    let o : 2 * suc i + 1 ≡ suc (suc (2 * i + 1)) = omega arith in
    pcms-get b i z (omega (arith, h))
    ∙ sym (ap (λ (k : ℕ). to_z w16 (get_or (low ∷ high ∷ b) k 0 + get_or (low ∷ high ∷ b) (2 * suc i + 1) 0 * 256)) e
    ∙ ap (λ (k : ℕ). to_z w16 (get_or b (2 * i) 0 + get_or (low ∷ high ∷ b) k 0 * 256)) o)

-- the i-th 16-bit number of a file
pub pcm-at : (file : List ℕ) (i : ℕ) (z : ℤ) → 44 + 2 * i + 1 < length file → to_z w16 (u16_at file (44 + 2 * i)) ≡ get_or (pcms_in (drop 44 file)) i z
unfolding u16_at u8_at
pcm-at file i z h =
    let o : 44 + (2 * i + 1) ≡ 44 + 2 * i + 1 = omega arith in
    let room : 2 * i + 1 < length (drop 44 file) = subst (λ (n : ℕ). 2 * i + 1 < n) (sym (length-drop 44 file)) (omega (arith, h)) in
    sym (pcms-get (drop 44 file) i z room
    ∙ ap (λ (k : ℕ). to_z w16 (k + get_or (drop 44 file) (2 * i + 1) 0 * 256)) (get_or-drop 44 file (2 * i) 0)
    ∙ ap (λ (k : ℕ). to_z w16 (get_or file (44 + 2 * i) 0 + k * 256)) (get_or-drop 44 file (2 * i + 1) 0 ∙ ap (λ (k : ℕ). get_or file k 0) o))

-- what the test of a file says of its length and its frames
pub taken-length : (file : List ℕ) → T (is_recording file) → length file ≡ 44 + 4 * frames_in file
unfolding is_recording
taken-length file t =
    eqb→eq (length file) (44 + 4 * frames_in file)
    (and_l (eqb (length file) (44 + 4 * frames_in file)) (leb (frames_in file) most_frames)
    (and_l (eqb (length file) (44 + 4 * frames_in file) && leb (frames_in file) most_frames) (same_bytes (take 44 file) (heading_of (frames_in file))) t))

pub taken-frames : (file : List ℕ) → T (is_recording file) → frames_in file ≤ 1073741814
unfolding is_recording
taken-frames file t =
    leb→le (frames_in file) most_frames
    (and_r (eqb (length file) (44 + 4 * frames_in file)) (leb (frames_in file) most_frames)
    (and_l (eqb (length file) (44 + 4 * frames_in file) && leb (frames_in file) most_frames) (same_bytes (take 44 file) (heading_of (frames_in file))) t))

-- ---- the tests of a file, one after the other

not-such : (file : List ℕ) → (length file ≡ 44 + 4 * frames_in file → ⊥) → false ≡ is_recording file
unfolding is_recording
not-such file n = rw (ne_eqb _ _ n) refl

pub too_short : (file : List ℕ) → length file < 44 → false ≡ is_recording file
too_short file h = not-such file (λ e. lt_irrefl 0 (omega (arith, h, e)))

pub part-of-a-frame : (file : List ℕ) → 44 ≤ length file → ((length file - 44) % 4 ≡ 0 → ⊥) → false ≡ is_recording file
part-of-a-frame file h n = not-such file (λ e. n (omega (arith, h, e)))

pub too_long : (file : List ℕ) → 1073741814 < frames_in file → false ≡ is_recording file
unfolding is_recording
too_long file h = rw (lt-leb _ _ h, and-false (eqb (length file) (44 + 4 * frames_in file))) refl

pub by-heading : (file : List ℕ) → 44 ≤ length file → (length file - 44) % 4 ≡ 0 → frames_in file ≤ 1073741814
    → same_bytes (take 44 file) (heading_of (frames_in file)) ≡ is_recording file
unfolding is_recording
by-heading file h z l =
    let whole : length file ≡ 44 + 4 * frames_in file = omega (arith, h, z) in
    rw (eq-eqb _ _ whole, le-leb _ _ l) refl

-- ---- the answers of `read`

pub read-28 : (file : List ℕ) (room : ℕ) → is_recording file ≡ false → read_number file room ≡ 28
unfolding read_number
read-28 file room a = rw a

pub read-15 : (file : List ℕ) (room : ℕ) → is_recording file ≡ true → room < 2 * frames_in file → read_number file room ≡ 15
unfolding read_number
read-15 file room a b = rw (a, lt-ltb room (2 * frames_in file) b)

pub read-0 : (file : List ℕ) (room : ℕ) → is_recording file ≡ true → 2 * frames_in file ≤ room → read_number file room ≡ 0
unfolding read_number
read-0 file room a b = rw (a, le-ltb room (2 * frames_in file) b)

pub replayed-0 : (file : List ℕ) (out : List ℤ) → read_number file (length out) ≡ 0 → replayed file out ≡ pcms_in (drop 44 file) ++ drop (2 * frames_in file) out
unfolding replayed
replayed-0 file out h = rw (eq-eqb (read_number file (length out)) 0 h)

pub read-other : (file : List ℕ) (out : List ℤ) → is_recording file ≡ false
    → (record { number = 28; frames = 0 } ≡ heard_of file (length out)) × (out ≡ replayed file out)
unfolding heard_of replayed
read-other file out e = let n = read-28 file (length out) e in (rw n refl, rw n refl)

pub read_short : (file : List ℕ) (out : List ℤ) → is_recording file ≡ true → length out < 2 * frames_in file
    → (record { number = 15; frames = 0 } ≡ heard_of file (length out)) × (out ≡ replayed file out)
unfolding heard_of replayed
read_short file out e h = let n = read-15 file (length out) e h in (rw n refl, rw n refl)

pub read_done : (file : List ℕ) (out o : List ℤ) → is_recording file ≡ true → 2 * frames_in file ≤ length out
    → o ≡ pcms_in (drop 44 file) ++ drop (2 * frames_in file) out
    → (record { number = 0; frames = frames_in file } ≡ heard_of file (length out)) × (o ≡ replayed file out)
unfolding heard_of
read_done file out o e h q = let n = read-0 file (length out) e h in (rw n refl, q ∙ sym (replayed-0 file out n))

-- as many numbers as two for each frame
pub taken-numbers : (file : List ℕ) → T (is_recording file) → (length file - 44) / 2 ≡ 2 * frames_in file
taken-numbers file t = let whole = taken-length file t in omega (arith, whole)

-- how many 16-bit numbers stand behind a heading
pub numbers-length : (file : List ℕ) → length (pcms_in (drop 44 file)) ≡ (length file - 44) / 2
numbers-length file = pcms-length (drop 44 file) ∙ ap (λ (n : ℕ). n / 2) (length-drop 44 file)
