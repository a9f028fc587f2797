-- A heading and pours, one behind the other, are the writer's file.
use mathlib.Core.Bool.{Bool, false, ◌||◌, or_assoc}
use mathlib.Core.List.{List, [], ◌∷◌, ◌++◌}
use mathlib.Core.Path.{◌≡◌, refl, ap, ap₂, sym, ◌∙◌}
use Prim.Native.Nat.{ℕ, ◌+◌, ◌*◌, ◌/◌, ◌%◌}
use native.Mathlib.Omega.{arith}
use borrow.Author.Tests.{ne_eqb}
use lib.Ieee.{Float}
use lib.ListN.{length, take, drop, length-append}
use lib.Seq.{take_at}
use Rattle.arith.specs.Lists.{any_of}
use Rattle.wave.specs.Headings.{heading_of, heading_number, headed}
use Rattle.wave.specs.Pours.{is_other, is_broken, poured_of}
use Rattle.wave.specs.Recording.{recording_of, write_number}
use Rattle.wave.specs.Returned.{file_in}
use Rattle.wave.specs.Streams.{Share, all_numbers, poured_bytes, AllPoured, AllRoomy, StreamIsFile, FileIsStream}
use Rattle.wave.proofs.HeadingsLaws.{head-0, head-length, headed-0}
use Rattle.wave.proofs.PoursLaws.{clean_of, neither, even, pour-0, poured-0, poured-append, poured-length}
use Rattle.wave.proofs.RecordingLaws.{recorded-0, recording-length, write-0}
use Rattle.wave.proofs.RefusalsLaws.{heading-numbers, pour-room, write-room}

-- the writer's file, where it is done
pub file-written : (xs : List Float) (out : List ℕ) → write_number xs (length out) ≡ 0 → file_in xs out ≡ recording_of xs
file-written xs out h =
    ap (take (44 + 2 * length xs)) (recorded-0 xs out h)
    ∙ take_at (recording_of xs) (drop (44 + 2 * length xs) out) (44 + 2 * length xs) (recording-length xs)

pub any_append : {A : Type 0} (p : A → Bool) (xs ys : List A) → any_of p (xs ++ ys) ≡ (any_of p xs || any_of p ys)
any_append p [] ys = refl
any_append p (x ∷ xs) ys = ap (λ (b : Bool). p x || b) (any_append p xs ys) ∙ sym (or_assoc (p x) (any_of p xs) (any_of p ys))

-- a run of numbers is whole where its count is even and none of it is another
pub whole_of : (xs : List Float) → length xs % 2 ≡ 0 → any_of is_other xs ≡ false → is_broken xs ≡ false
unfolding is_broken
whole_of xs e h = rw (ne_eqb (length xs % 2) 1 (λ (q : length xs % 2 ≡ 1). omega arith)) h

-- ---- from the pours to the file

-- all numbers together: an even count, and none that is another
together : (ss : List Share) → AllPoured ss → (length (all_numbers ss) % 2 ≡ 0) × (any_of is_other (all_numbers ss) ≡ false)
together [] h = (refl, refl)
together (s ∷ ss) h =
    let p = (pour-room s.numbers (length s.out) h.0).0 in
    let even = even s.numbers p in
    let rest = together ss h.1 in
    let evens = rest.0 in
    let l = length-append s.numbers (all_numbers ss) in
    let all : length (s.numbers ++ all_numbers ss) % 2 ≡ 0 = omega arith in
    (all, any_append is_other s.numbers (all_numbers ss) ∙ ap₂ ◌||◌ (clean_of s.numbers p) rest.1)

-- and their bytes are those of the pours
bytes_of : (ss : List Share) → AllPoured ss → poured_bytes ss ≡ poured_of (all_numbers ss)
unfolding poured_of
bytes_of [] h = refl
bytes_of (s ∷ ss) h =
    let n = 2 * length s.numbers in
    ap₂ ◌++◌ (ap (take n) (poured-0 s.numbers s.out h.0) ∙ take_at (poured_of s.numbers) (drop n s.out) n (poured-length s.numbers)) (bytes_of ss h.1)
    ∙ sym (poured-append s.numbers (all_numbers ss))

-- the heading's bytes
pub head_bytes : (frames : ℕ) (out : List ℕ) → heading_number frames (length out) ≡ 0 → take 44 (headed frames out) ≡ heading_of frames
head_bytes frames out h = ap (take 44) (headed-0 frames out h) ∙ take_at (heading_of frames) (drop 44 out) 44 (head-length frames)

pub stream-is-file : StreamIsFile
unfolding recording_of
stream-is-file frames head out ss h ps total room =
    let xs = all_numbers ss in
    let t = together ss ps in
    let few = ((heading-numbers frames (length head)).done.0 h).0 in
    let half : length xs / 2 ≡ frames = omega arith in
    let w = write-0 xs (length out) (whole_of xs t.0 t.1) (omega arith) room in (
      w,
      file-written xs out w ∙ ap (λ (n : ℕ). heading_of n ++ poured_of xs) half ∙ sym (ap₂ ◌++◌ (head_bytes frames head h) (bytes_of ss ps)),
    )

-- ---- and back
all-poured : (ss : List Share) → any_of is_other (all_numbers ss) ≡ false → AllRoomy ss → AllPoured ss
all-poured [] h r = tt
all-poured (s ∷ ss) h r =
    let two = neither (any_of is_other s.numbers) (any_of is_other (all_numbers ss)) (sym (any_append is_other s.numbers (all_numbers ss)) ∙ h) in (
      pour-0 s.numbers (length s.out) (whole_of s.numbers r.0.0 two.0) r.0.1,
      all-poured ss two.1 r.1,
    )

pub file-is-stream : FileIsStream
file-is-stream frames head out ss h total room r =
    let d = write-room (all_numbers ss) (length out) h in
    let few = d.1 in
    (head-0 frames (length head) (omega arith) room, all-poured ss (clean_of (all_numbers ss) d.0) r)
