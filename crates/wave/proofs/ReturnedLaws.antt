-- Reading what was written, and writing what was read.
use mathlib.Core.Bool.{Bool, true, false, not, ◌||◌}
use mathlib.Core.List.{List, [], ◌∷◌, ◌++◌, map}
use mathlib.Core.Logic.{inr}
use mathlib.Core.Path.{◌≡◌, refl, ap, ap₂, sym, ◌∙◌, subst}
use Prim.Native.Nat.{ℕ, zero, suc, ◌+◌, ◌-◌, ◌*◌, ◌/◌, ◌%◌, ◌<◌, ◌≤◌}
use native.Mathlib.Nat.{mod-eq_of_lt}
use native.Mathlib.Omega.{arith}
use borrow.Author.Tests.{lt-ltb, le-ltb, ltb-true, ltb-false}
use lib.Dec.{T, ltb, leb→le, lit<}
use lib.Ieee.{Float}
use lib.Ieee.Exact.{HasValue}
use lib.IntN.{ℤ, pos, negsuc, nat_abs}
use lib.ListN.{length, take, drop, get_or, length-append, length-map, get_or-append, get_or-map}
use lib.Signed.{◌≤ℤ◌}
use lib.Seq.{take_at, drop_at, get_or-append-add}
use Rattle.arith.proofs.BytesLaws.{all_append}
use Rattle.arith.specs.Bytes.{AllBytes, i16_at, u16_at, u8_at}
use mir.Syntax.{w16}
use mir.Val.{to_z}
use Rattle.arith.specs.Floats.{is_neg}
use Rattle.arith.specs.Floors.{mod_z}
use Rattle.arith.specs.Lists.{any_of}
use Rattle.wave.specs.Answers.{Heard}
use Rattle.wave.specs.Pcm.{is_output, k_of, pcm_of_k, pcm_of, number_of}
use Rattle.wave.specs.Headings.{heading_of, in_two, in_four, most_frames}
use Rattle.wave.specs.Pours.{is_other, is_broken, poured_of}
use Rattle.wave.specs.Recording.{recording_of, write_number, recorded}
use Rattle.wave.specs.Playback.{pcms_in, heard_of, replayed}
use Rattle.wave.specs.Fractions.{OutputAt, FloorHeld}
use Rattle.wave.specs.Refusals.{FileOf}
use Rattle.wave.specs.Returned.{file_in, numbers_in, FileIsBytes, FileHoldsFloors, ReadIsWritten, ReadsEach, WrittenIsRead, WrittenAgain}
use Rattle.wave.proofs.HeadingsLaws.{head-length}
use Rattle.wave.proofs.PcmLaws.{rescaled}
use Rattle.wave.proofs.PoursLaws.{clean_of, even, poured-length, word_lt}
use Rattle.wave.proofs.RecordingLaws.{recorded-0, recording-length, write-0}
use Rattle.wave.proofs.PlaybackLaws.{pcms-get, pcms-length, read-0, replayed-0}
use Rattle.wave.proofs.FractionsLaws.{number-is-exact, output-passes, passed-is-output, pcm-is-floor}
use Rattle.wave.proofs.RefusalsLaws.{counted, frames-of, is-file, reader-numbers, write-room}
use Rattle.wave.proofs.StreamsLaws.{file-written, whole_of}

-- ---- bytes
head-is-bytes : (frames : ℕ) → AllBytes (heading_of frames)
unfolding heading_of
head-is-bytes frames =
    let front : List ℕ = (82 ∷ 73 ∷ 70 ∷ 70 ∷ []) ++ in_four (36 + 4 * frames) ++ (87 ∷ 65 ∷ 86 ∷ 69 ∷ []) ++ (102 ∷ 109 ∷ 116 ∷ 32 ∷ []) ++ in_four 16 in
    let tail : List ℕ = in_two 1 ++ in_two 2 ++ in_four 44100 ++ in_four 176400 ++ in_two 4 ++ in_two 16 ++ (100 ∷ 97 ∷ 116 ∷ 97 ∷ []) ++ in_four (4 * frames) in
    all_append front tail (omega arith) (omega arith)

poured-is-bytes : (xs : List Float) → AllBytes (poured_of xs)
unfolding poured_of
poured-is-bytes [] = tt
poured-is-bytes (x ∷ xs) =
    let rest = poured-is-bytes xs in
    let n = mod_z (pcm_of x) 65536 in
    let low : n % 256 < 256 = omega arith in
    let high : n / 256 % 256 < 256 = omega arith in
    (low, (high, rest))

recording-is-bytes : (xs : List Float) → AllBytes (recording_of xs)
unfolding recording_of
recording-is-bytes xs = all_append (heading_of (length xs / 2)) (poured_of xs) (head-is-bytes (length xs / 2)) (poured-is-bytes xs)

pub file-is-bytes : FileIsBytes
file-is-bytes xs out h = subst AllBytes (sym (file-written xs out h)) (recording-is-bytes xs)

-- ---- 16 bits, and back

-- a number of 16 bits
abbrev Sixteen : ℤ → Type 0
Sixteen (pos a) = a < 32768
Sixteen (negsuc a) = a < 32768

sixteen-of : (v : ℤ) → negsuc 32767 ≤ℤ v → v ≤ℤ pos 32767 → Sixteen v
sixteen-of (pos a) h k = let l = leb→le a 32767 k.le in omega arith
sixteen-of (negsuc a) h k = let l = leb→le a 32767 h.le in omega arith

to_low : (n : ℕ) → n < 32768 → to_z w16 n ≡ pos n
to_low n h = rw (lt-ltb n 32768 h)

to_high : (n : ℕ) → 32768 ≤ n → to_z w16 n ≡ negsuc (65536 - suc n)
to_high n h = rw (le-ltb n 32768 h)

-- its two's complement, read back
there_and_back : (v : ℤ) → Sixteen v → to_z w16 (mod_z v 65536) ≡ v
unfolding mod_z
there_and_back (pos a) h = let e : a % 65536 ≡ a = omega arith in ap (to_z w16) e ∙ to_low a h
there_and_back (negsuc a) h =
    let e : 65536 - 1 - a % 65536 ≡ 65535 - a = omega arith in
    let b : 65536 - suc (65535 - a) ≡ a = omega arith in
    ap (to_z w16) e ∙ to_high (65535 - a) (omega arith) ∙ ap negsuc b

back-and-there : (n : ℕ) → n < 65536 → mod_z (to_z w16 n) 65536 ≡ n
unfolding mod_z
back-and-there n h = by (ltb n 32768) refl
  where
    by : (b : Bool) → ltb n 32768 ≡ b → mod_z (to_z w16 n) 65536 ≡ n
    by true e = let l = ltb-true n 32768 e in ap (λ (z : ℤ). mod_z z 65536) (to_low n l) ∙ omega arith
    by false e = let l = ltb-false n 32768 e in ap (λ (z : ℤ). mod_z z 65536) (to_high n l) ∙ omega arith

to-sixteen : (n : ℕ) → n < 65536 → Sixteen (to_z w16 n)
to-sixteen n h = by (ltb n 32768) refl
  where
    by : (b : Bool) → ltb n 32768 ≡ b → Sixteen (to_z w16 n)
    by true e = let l = ltb-true n 32768 e in subst Sixteen (sym (to_low n l)) l
    by false e =
        let l = ltb-false n 32768 e in
        let s : 65536 - suc n < 32768 = omega arith in
        subst Sixteen (sym (to_high n l)) s

-- two bytes of a number, and the number of two bytes
from-two : (n : ℕ) → n < 65536 → n % 256 + n / 256 % 256 * 256 ≡ n
from-two n h = omega arith

-- ---- reading what was written

-- the 16-bit number of an output number has 16 bits
pcm-sixteen : (x : Float) → is_output x ≡ true → Sixteen (pcm_of x)
unfolding pcm_of
pcm-sixteen x h =
    let f = pcm-is-floor (k_of x) (passed-is-output x h).small in
    sixteen-of (pcm_of_k (k_of x)) f.least f.most

read-poured : (xs : List Float) → any_of is_other xs ≡ false → pcms_in (poured_of xs) ≡ map pcm_of xs
unfolding pcms_in poured_of
read-poured [] h = refl
read-poured (x ∷ xs) h = by (λ (g : any_of is_other xs ≡ false). read-poured xs g) (is_output x) refl h
  where
    by : (any_of is_other xs ≡ false → pcms_in (poured_of xs) ≡ map pcm_of xs) → (b : Bool) → is_output x ≡ b
        → (not b || any_of is_other xs) ≡ false → pcms_in (poured_of (x ∷ xs)) ≡ map pcm_of (x ∷ xs)
    by rest true e g =
        let v = pcm_of x in
        let n = mod_z v 65536 in
        ap₂ ◌∷◌ (ap (to_z w16) (from-two n (word_lt v)) ∙ there_and_back v (pcm-sixteen x e)) (rest g)
    by rest false e g = absurd (subst T g tt)

-- the file of numbers is one of their frames
recording-of : (xs : List Float) → is_broken xs ≡ false → length xs / 2 ≤ most_frames → FileOf (recording_of xs) (length xs / 2)
unfolding recording_of
recording-of xs p few =
    let even = even xs p in
    record { few = few; body = poured_of xs; long = poured-length xs ∙ omega arith; whole = refl }

abbrev answer : ℕ → ℕ → Heard
answer number frames = record { number = number; frames = frames }

-- what a done reader answers
heard-0 : (file : List ℕ) (room n : ℕ) → FileOf file n → 2 * n ≤ room → heard_of file room ≡ answer 0 n
unfolding heard_of
heard-0 file room n f l =
    let q = frames-of file n f in
    let r = read-0 file room (is-file file n f) (omega arith) in
    rw (r, q)

-- what it leaves
replayed-of : (file : List ℕ) (room : List ℤ) (n : ℕ) → (f : FileOf file n) → 2 * n ≤ length room → replayed file room ≡ pcms_in f.body ++ drop (2 * n) room
replayed-of file room n f l =
    let q = frames-of file n f in
    let r = read-0 file (length room) (is-file file n f) (omega arith) in
    replayed-0 file room r
    ∙ ap₂ (λ (bs : List ℕ) (m : ℕ). pcms_in bs ++ drop (2 * m) room) (ap (drop 44) f.whole ∙ drop_at (heading_of n) f.body 44 (head-length n)) q

pub read-is-written : ReadIsWritten
unfolding recording-of
read-is-written xs out room h l =
    let d = write-room xs (length out) h in
    let f = recording-of xs d.0 d.1 in
    let even = even xs d.0 in
    let w = file-written xs out h in
    let twice : 2 * (length xs / 2) ≡ length xs = omega arith in (
      ap (λ (file : List ℕ). heard_of file (length room)) w ∙ heard-0 (recording_of xs) (length room) (length xs / 2) f (omega arith),
      ap (λ (file : List ℕ). replayed file room) w ∙ replayed-of (recording_of xs) room (length xs / 2) f (omega arith)
          ∙ ap₂ (λ (vs : List ℤ) (m : ℕ). vs ++ drop m room) (read-poured xs (clean_of xs d.0)) twice,
    )

-- ---- number by number

-- number i behind a heading
behind-head : (frames i : ℕ) (body : List ℕ) → i16_at (heading_of frames ++ body) (44 + 2 * i) ≡ to_z w16 (get_or body (2 * i) 0 + get_or body (2 * i + 1) 0 * 256)
unfolding i16_at u16_at u8_at
behind-head frames i body =
    let l = head-length frames in
    let at : (j : ℕ) → get_or (heading_of frames ++ body) (44 + j) 0 ≡ get_or body j 0 =
    λ j. subst (λ (m : ℕ). get_or (heading_of frames ++ body) (m + j) 0 ≡ get_or body j 0) l (get_or-append-add (heading_of frames) body j 0)
    in
    let one : 44 + 2 * i + 1 ≡ 44 + (2 * i + 1) = omega arith in
    ap (to_z w16) (ap₂ (λ (a b : ℕ). a + b * 256) (at (2 * i)) (ap (λ (m : ℕ). get_or (heading_of frames ++ body) m 0) one ∙ at (2 * i + 1)))

pub reads-each : ReadsEach
reads-each file out i past r h =
    let d = (reader-numbers file (length out)).done.0 r in
    let n = d.0 in
    let f = d.1.0 in
    let c = counted file (length out) n f d.1.1 in
    let l = f.long in
    let long : length f.body ≡ 2 * (2 * n) = omega arith in
    let few : i < length (pcms_in f.body) = let m = pcms-length f.body in omega arith in
    ap (λ (os : List ℤ). get_or os i past) (replayed-of file out n f d.1.1)
    ∙ get_or-append (pcms_in f.body) (drop (2 * n) out) past i few
    ∙ pcms-get f.body i past (omega arith)
    ∙ sym (behind-head n i f.body) ∙ ap (λ (b : List ℕ). i16_at b (44 + 2 * i)) (sym f.whole)

pub file-holds-floors : FileHoldsFloors
unfolding recording_of pcm_of
file-holds-floors xs out i past k h l o =
    let d = write-room xs (length out) h in
    let p = output-passes (get_or xs i past) k o in
    let here : i16_at (file_in xs out) (44 + 2 * i) ≡ pcm_of_k k =
    ap (λ (b : List ℕ). i16_at b (44 + 2 * i)) (file-written xs out h)
    ∙ behind-head (length xs / 2) i (poured_of xs)
    ∙ sym (pcms-get (poured_of xs) i (pcm_of past) (let m = poured-length xs in omega arith))
    ∙ ap (λ (vs : List ℤ). get_or vs i (pcm_of past)) (read-poured xs (clean_of xs d.0))
    ∙ get_or-map pcm_of xs i past ∙ ap pcm_of_k p.1
    in
    subst (FloorHeld k) (sym here) (pcm-is-floor k o.small)

-- ---- writing what was read

-- the k of a 16-bit number: 256 times it
abbrev wide : ℤ → ℤ
wide (pos a) = pos (a * 256)
wide (negsuc a) = negsuc (a * 256 + 255)

wide-size : (v : ℤ) → nat_abs (wide v) ≡ nat_abs v * 256
wide-size (pos a) = refl
wide-size (negsuc a) = omega arith

wide_sign : (v : ℤ) → is_neg v ≡ is_neg (wide v)
wide_sign (pos a) = refl
wide_sign (negsuc a) = refl

wide-floor : (v : ℤ) → Sixteen v → pcm_of_k (wide v) ≡ v
unfolding pcm_of_k
wide-floor (pos a) h =
    let e : a * 256 / 256 ≡ a = omega arith in
    rw (e, le-ltb 32767 a (omega arith))
wide-floor (negsuc a) h = let e : (a * 256 + 255) / 256 ≡ a = omega arith in ap negsuc e

sixteen-within : (v : ℤ) → Sixteen v → nat_abs v ≤ 32768
sixteen-within (pos a) h = omega arith
sixteen-within (negsuc a) h = h

number_at : (v : ℤ) → Sixteen v → OutputAt (number_of v) (wide v)
number_at v h =
    let w = sixteen-within v h in
    let size = wide-size v in
    record {
      sign = is_neg v;
      value = subst (λ (n : ℕ). HasValue (number_of v) (is_neg v) n 8388608) (sym size) (rescaled (number_of v) (is_neg v) (nat_abs v) 32768 (nat_abs v * 256) 8388608 (lit< tt) (omega arith) (number-is-exact v (record { within = w })).value);
      small = record { within = omega arith };
      signed = inr (wide_sign v);
    }

-- a 16-bit number as a float is an output number, of that 16-bit number
number-passes : (v : ℤ) → Sixteen v → (is_output (number_of v) ≡ true) × (pcm_of (number_of v) ≡ v)
unfolding pcm_of
number-passes v h =
    let o = output-passes (number_of v) (wide v) (number_at v h) in
    (o.0, ap pcm_of_k o.1 ∙ wide-floor v h)

-- a number of two bytes
two-small : (low high : ℕ) → low < 256 → high < 256 → low + high * 256 < 65536
two-small low high h k = omega arith

-- the numbers of bytes, as floats, are poured as those bytes
poured-back : (n : ℕ) (bytes : List ℕ) → AllBytes bytes → length bytes ≡ 2 * n
    → (any_of is_other (map number_of (pcms_in bytes)) ≡ false) × (poured_of (map number_of (pcms_in bytes)) ≡ bytes)
unfolding pcms_in poured_of
poured-back n [] b l = (refl, refl)
poured-back n (low ∷ []) b l = absurd (omega arith)
poured-back zero (low ∷ high ∷ bytes) b l = absurd (omega arith)
poured-back (suc n) (low ∷ high ∷ bytes) b l =
    let rest = poured-back n bytes b.1.1 (omega arith) in
    let z = low + high * 256 in
    let lo = b.0 in
    let hi = b.1.0 in
    let small = two-small low high lo hi in
    let p = number-passes (to_z w16 z) (to-sixteen z small) in
    let m : mod_z (pcm_of (number_of (to_z w16 z))) 65536 ≡ z = ap (λ (v : ℤ). mod_z v 65536) p.1 ∙ back-and-there z small in
    let e : z % 256 ≡ low = omega arith in
    let q : z / 256 ≡ high = omega arith in
    let f : z / 256 % 256 ≡ high = ap (λ (k : ℕ). k % 256) q ∙ mod-eq_of_lt hi in (
      rw p.0 rest.0,
      ap₂ ◌∷◌ (ap (λ (k : ℕ). k % 256) m ∙ e) (ap₂ ◌∷◌ (ap (λ (k : ℕ). k / 256 % 256) m ∙ f) rest.1),
    )

bytes-behind : (k : ℕ) (xs : List ℕ) → AllBytes xs → AllBytes (drop k xs)
bytes-behind zero xs h = h
bytes-behind (suc k) [] h = h
bytes-behind (suc k) (x ∷ xs) h = bytes-behind k xs h.1

-- a file of n frames, read and written
module _ (file : List ℕ) (n : ℕ) (f : FileOf file n) (b : AllBytes file) where
  body_is : drop 44 file ≡ f.body
  body_is = ap (drop 44) f.whole ∙ drop_at (heading_of n) f.body 44 (head-length n)

  body_bytes : AllBytes f.body
  body_bytes = subst AllBytes body_is (bytes-behind 44 file b)

  -- its numbers as floats
  floats : List Float
  floats = map number_of (pcms_in f.body)

  floats-length : length floats ≡ 2 * n
  unfolding floats
  floats-length = length-map (pcms_in f.body) number_of ∙ pcms-length f.body ∙ (let l = f.long in omega arith)

  floats-poured : (any_of is_other floats ≡ false) × (poured_of floats ≡ f.body)
  unfolding floats
  floats-poured = poured-back (2 * n) f.body body_bytes (let l = f.long in omega arith)

  floats-whole : is_broken floats ≡ false
  floats-whole = whole_of floats (let l = floats-length in omega arith) floats-poured.0

  floats-file : recording_of floats ≡ file
  unfolding recording_of
  floats-file =
      let l = floats-length in
      let half : length floats / 2 ≡ n = omega arith in
      ap₂ (λ (m : ℕ) (bs : List ℕ). heading_of m ++ bs) half floats-poured.1 ∙ sym f.whole

  floats-done : (room : ℕ) → length file ≤ room → write_number floats room ≡ 0
  floats-done room l =
      let k = floats-length in
      let few = f.few in
      let whole : length file ≡ 44 + 4 * n = ap length f.whole ∙ length-append (heading_of n) f.body ∙ omega (arith, head-length n, f.long) in
      write-0 floats room floats-whole (omega arith) (omega arith)

  -- what the reader leaves of it
  numbers-are : (room : List ℤ) → 2 * n ≤ length room → map number_of (numbers_in file room) ≡ floats
  unfolding floats
  numbers-are room l =
      ap (map number_of)
      (ap₂ (λ (h : Heard) (os : List ℤ). take (2 * h.frames) os) (heard-0 file (length room) n f l) (replayed-of file room n f l)
      ∙ take_at (pcms_in f.body) (drop (2 * n) room) (2 * n) (pcms-length f.body ∙ (let k = f.long in omega arith)))

pub written-is-read : WrittenIsRead
written-is-read file out room b r l =
    let d = (reader-numbers file (length room)).done.0 r in
    let n = d.0 in
    let f = d.1.0 in
    let e = numbers-are file n f b room d.1.1 in
    let w = floats-done file n f b (length out) l in
    let whole = floats-file file n f b in
    let k : 44 + 2 * length (floats file n f b) ≡ length file = sym (recording-length (floats file n f b)) ∙ ap length whole in (
      ap (λ (xs : List Float). write_number xs (length out)) e ∙ w,
      ap (λ (xs : List Float). recorded xs out) e ∙ recorded-0 (floats file n f b) out w ∙ ap₂ (λ (x : List ℕ) (m : ℕ). x ++ drop m out) whole k,
    )

pub written-again : WrittenAgain
written-again xs out room h l =
    let d = write-room xs (length out) h in
    let even = even xs d.0 in
    let f = recording-of xs d.0 d.1 in
    let n = length xs / 2 in
    let b = recording-is-bytes xs in
    let file = recording_of xs in
    let e = numbers-are file n f b room (omega arith) in
    let fits : length file ≤ length out = let k = recording-length xs in let m = d.2 in omega arith in
    let w = floats-done file n f b (length out) fits in
    ap (λ (x : List ℕ). file_in (map number_of (numbers_in x room)) out) (file-written xs out h)
    ∙ ap (λ (ys : List Float). file_in ys out) e
    ∙ file-written (floats file n f b) out w ∙ floats-file file n f b ∙ sym (file-written xs out h)
