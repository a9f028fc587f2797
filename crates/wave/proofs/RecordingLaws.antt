-- The answers of `write`.
use mathlib.Core.Path.{◌≡◌, refl, sym, ap, ap₂, ◌∙◌, subst}
use mathlib.Core.Bool.{true, false}
use mathlib.Core.List.{List, ◌++◌}
use Prim.Native.Nat.{ℕ, ◌+◌, ◌-◌, ◌*◌, ◌/◌, ◌%◌, ◌≤◌, ◌<◌}
use native.Mathlib.Omega.{arith}
use borrow.Author.Tests.{eq-eqb, le-ltb, lt-ltb}
use lib.Ieee.{Float}
use lib.ListN.{length, take, drop, length-append, length-drop}
use lib.Seq.{drop-append-add, drop-drop, take_at}
use Rattle.wave.specs.Headings.{heading_of, most_frames}
use Rattle.wave.specs.Pours.{is_broken, poured_of}
use Rattle.wave.specs.Recording.{recorded, recording_of, write_number}
use Rattle.wave.proofs.HeadingsLaws.{head-length}
use Rattle.wave.proofs.PoursLaws.{even, poured-length}

-- a frame has two numbers of two bytes each
pub four-a-frame : (xs : List Float) → is_broken xs ≡ false → 4 * (length xs / 2) ≡ 2 * length xs
four-a-frame xs e = let z : length xs % 2 ≡ 0 = even xs e in omega (arith, z)

pub write-13 : (xs : List Float) (room : ℕ) → is_broken xs ≡ true → write_number xs room ≡ 13
unfolding write_number
write-13 xs room a = rw a

pub write-14 : (xs : List Float) (room : ℕ) → is_broken xs ≡ false → most_frames < length xs / 2 → write_number xs room ≡ 14
unfolding write_number
write-14 xs room a b = rw (a, lt-ltb most_frames (length xs / 2) b)

pub write-15 : (xs : List Float) (room : ℕ) → is_broken xs ≡ false → length xs / 2 ≤ most_frames → room < 44 + 2 * length xs → write_number xs room ≡ 15
unfolding write_number
write-15 xs room a b c = rw (a, le-ltb most_frames (length xs / 2) b, lt-ltb room (44 + 2 * length xs) c)

pub write-0 : (xs : List Float) (room : ℕ) → is_broken xs ≡ false → length xs / 2 ≤ most_frames → 44 + 2 * length xs ≤ room → write_number xs room ≡ 0
unfolding write_number
write-0 xs room a b c = rw (a, le-ltb most_frames (length xs / 2) b, le-ltb room (44 + 2 * length xs) c)

pub recorded-0 : (xs : List Float) (out : List ℕ) → write_number xs (length out) ≡ 0 → recorded xs out ≡ recording_of xs ++ drop (44 + 2 * length xs) out
unfolding recorded
recorded-0 xs out h = rw (eq-eqb (write_number xs (length out)) 0 h)

pub write-broken : (xs : List Float) (out : List ℕ) → is_broken xs ≡ true → (13 ≡ write_number xs (length out)) × (out ≡ recorded xs out)
unfolding recorded
write-broken xs out e = let n = write-13 xs (length out) e in (sym n, rw n refl)

pub write-long : (xs : List Float) (out : List ℕ) → is_broken xs ≡ false → 1073741814 < length xs / 2 → (14 ≡ write_number xs (length out)) × (out ≡ recorded xs out)
unfolding recorded
write-long xs out e h = let n = write-14 xs (length out) e h in (sym n, rw n refl)

pub write-short : (xs : List Float) (out : List ℕ) → is_broken xs ≡ false → length xs / 2 ≤ 1073741814 → length out < 44 + 4 * (length xs / 2)
    → (15 ≡ write_number xs (length out)) × (out ≡ recorded xs out)
unfolding recorded
write-short xs out e h s =
    let n = write-15 xs (length out) e h (subst (λ (n : ℕ). length out < 44 + n) (four-a-frame xs e) s) in
    (sym n, rw n refl)

-- behind the heading the numbers are poured, and what stood behind both is as it was
behind : (xs : List Float) (out o : List ℕ) → o ≡ heading_of (length xs / 2) ++ drop 44 out
    → (take 44 o ++ poured_of xs) ++ drop (44 + 2 * length xs) o ≡ recording_of xs ++ drop (44 + 2 * length xs) out
unfolding recording_of
behind xs out o q =
    let head = heading_of (length xs / 2) in
    ap₂ (λ (h t : List ℕ). (h ++ poured_of xs) ++ t)
    (ap (take 44) q ∙ take_at head (drop 44 out) 44 (head-length (length xs / 2)))
    (ap (drop (44 + 2 * length xs)) q
    ∙ ap (λ (k : ℕ). drop (k + 2 * length xs) (head ++ drop 44 out)) (sym (head-length (length xs / 2)))
    ∙ drop-append-add head (drop 44 out) (2 * length xs) ∙ drop-drop (2 * length xs) 44 out)

pub write_done : (xs : List Float) (out o p : List ℕ) → is_broken xs ≡ false → length xs / 2 ≤ 1073741814 → 44 + 4 * (length xs / 2) ≤ length out
    → o ≡ heading_of (length xs / 2) ++ drop 44 out → p ≡ (take 44 o ++ poured_of xs) ++ drop (44 + 2 * length xs) o
    → (0 ≡ write_number xs (length out)) × (p ≡ recorded xs out)
write_done xs out o p e h s q r =
    let n = write-0 xs (length out) e h (subst (λ (n : ℕ). 44 + n ≤ length out) (four-a-frame xs e) s) in
    (sym n, r ∙ behind xs out o q ∙ sym (recorded-0 xs out n))

pub recording-length : (xs : List Float) → length (recording_of xs) ≡ 44 + 2 * length xs
unfolding recording_of
recording-length xs = length-append (heading_of (length xs / 2)) (poured_of xs) ∙ omega (arith, head-length (length xs / 2), poured-length xs)

-- with the heading in front, there is still room for the numbers
pub room-left : (xs : List Float) (out o : List ℕ) → is_broken xs ≡ false → 44 + 4 * (length xs / 2) ≤ length out
    → o ≡ heading_of (length xs / 2) ++ drop 44 out → 44 + 2 * length xs ≤ length o
room-left xs out o e s q =
    let whole : length o ≡ 44 + (length out - 44) =
    ap length q ∙ length-append (heading_of (length xs / 2)) (drop 44 out) ∙ ap₂ ◌+◌ (head-length (length xs / 2)) (length-drop 44 out) in
    let four : 4 * (length xs / 2) ≡ 2 * length xs = four-a-frame xs e in
    omega (arith, whole, four, s)
