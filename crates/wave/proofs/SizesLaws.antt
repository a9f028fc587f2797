-- What a heading says, read back from its bytes.
use mathlib.Core.List.{List}
use mathlib.Core.Path.{◌≡◌, refl, sym, ◌∙◌, subst}
use Prim.Native.Nat.{ℕ, ◌+◌, ◌*◌, ◌/◌, ◌%◌, ◌<◌}
use native.Mathlib.Nat.{div-add-mod', div-div-eq-div-mul, mod-eq_of_lt}
use native.Mathlib.Omega.{arith}
use lib.Dec.{lit<, lit≤}
use lib.Ieee.{Float}
use lib.ListN.{length}
use Rattle.arith.specs.Bytes.{u8_at, u16_at, u32_at}
use Rattle.wave.specs.Headings.{heading_of}
use Rattle.wave.specs.Recording.{recording_of}
use Rattle.wave.specs.Sizes.{LargestCount, Fields, HeadingReadsBack, FileReadsBack, SizesAreTrue}
use Rattle.wave.proofs.HeadingsLaws.{head-length}
use Rattle.wave.proofs.PoursLaws.{even}
use Rattle.wave.proofs.RecordingLaws.{recording-length}
use Rattle.wave.proofs.RefusalsLaws.{write-room}
use Rattle.wave.proofs.StreamsLaws.{file-written}

pub largest-count : LargestCount
largest-count = (lit< tt, lit≤ tt)

-- a number of 32 bits from its four bytes
pub from-four : (n : ℕ) → n < 4294967296 → n % 256 + n / 256 % 256 * 256 + n / 65536 % 256 * 65536 + n / 16777216 % 256 * 16777216 ≡ n
from-four n h =
    let x = n / 256 in
    let y = x / 256 in
    let z = y / 256 in
    let two : n / 65536 ≡ y = sym (div-div-eq-div-mul n 256 256) in
    let three : n / 16777216 ≡ z = sym (div-div-eq-div-mul n 256 65536) ∙ sym (div-div-eq-div-mul x 256 256) in
    let small : z % 256 ≡ z = mod-eq_of_lt (omega arith) in
    rw (two, three, small) (joined n x y z (n % 256) (x % 256) (y % 256) (div-add-mod' n 256) (div-add-mod' x 256) (div-add-mod' y 256))
  where
    joined : (n x y z a b c : ℕ) → x * 256 + a ≡ n → y * 256 + b ≡ x → z * 256 + c ≡ y → a + b * 256 + c * 65536 + z * 16777216 ≡ n
    joined n x y z a b c p q r = omega arith

head-fields : (frames : ℕ) → 36 + 4 * frames < 4294967296 → Fields (heading_of frames) frames
unfolding heading_of u8_at u16_at u32_at
head-fields frames h = record {
  riff = refl;
  riff-size = from-four (36 + 4 * frames) h;
  wave = refl;
  fmt = refl;
  fmt-size = refl;
  format = refl;
  channels = refl;
  rate = refl;
  speed = refl;
  block = refl;
  bits = refl;
  data-name = refl;
  data-size = from-four (4 * frames) (omega arith);
}

pub heading-reads-back : HeadingReadsBack
heading-reads-back frames h = (head-length frames, head-fields frames (omega arith))

-- .. in a whole file
file-fields : (xs : List Float) → 36 + 4 * (length xs / 2) < 4294967296 → Fields (recording_of xs) (length xs / 2)
unfolding recording_of heading_of u8_at u16_at u32_at
file-fields xs h =
    let f = head-fields (length xs / 2) h in
    record {
      riff = refl;
      riff-size = f.riff-size;
      wave = refl;
      fmt = refl;
      fmt-size = refl;
      format = refl;
      channels = refl;
      rate = refl;
      speed = refl;
      block = refl;
      bits = refl;
      data-name = refl;
      data-size = f.data-size;
    }

pub file-reads-back : FileReadsBack
file-reads-back xs out h =
    let few = (write-room xs (length out) h).1 in
    subst (λ (file : List ℕ). Fields file (length xs / 2)) (sym (file-written xs out h)) (file-fields xs (omega arith))

pub sizes-are-true : SizesAreTrue
sizes-are-true xs out h =
    let d = write-room xs (length out) h in
    let few = d.1 in
    let even = even xs d.0 in
    let f = file-fields xs (omega arith) in
    let riff = f.riff-size in
    let part = f.data-size in
    let l = recording-length xs in
    rw (file-written xs out h) (omega arith, omega arith)
