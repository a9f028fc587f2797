-- Examples, computed: a file of one frame, k = -257 on the left and k = 8,388,608 on the right; and each refusal.
use mathlib.Core.Bool.{true, false}
use mathlib.Core.List.{List, [], ◌∷◌, ◌++◌, map}
use mathlib.Core.Path.{◌≡◌, refl}
use Prim.Native.Nat.{ℕ, zero, suc, ◌*◌, ◌<◌}
use native.Mathlib.Omega.{arith}
use lib.Ieee.{Float, nan, inf, fin}
use lib.Ieee as Ieee
use lib.Count as Count
use lib.IntN.{pos, negsuc}
use lib.ListN.{take, drop, replicate, length-replicate}
use Rattle.arith.specs.Floors.{mod_z}
use Rattle.arith.specs.Lists.{any_of}
use Rattle.wave.specs.Pcm.{is_output, k_of, pcm_of_k, pcm_of, number_of}
use Rattle.wave.specs.Headings.{heading_of, most_frames, heading_number, headed}
use Rattle.wave.specs.Pours.{is_other, is_broken, poured_of, pour_number, poured_into}
use Rattle.wave.specs.Recording.{recording_of, write_number, recorded}
use Rattle.wave.specs.Returned.{file_in}
use Rattle.wave.specs.Streams.{poured_bytes}
use Rattle.wave.specs.Playback.{same_bytes, is_recording, pcms_in, read_number, heard_of, replayed}
use Rattle.wave.proofs.RecordingLaws.{write-14}
use Rattle.wave.proofs.StreamsLaws.{whole_of}

-- -257/2^23
abbrev left : Float
left = fin true 257 (negsuc 22)

-- 1, the largest output number
abbrev right : Float
right = fin false 1 (pos 0)

-- one frame
abbrev frame : List Float
frame = left ∷ right ∷ []

-- its file, byte by byte: floor(-257/256) is -2, and 32,768 is held to 32,767
abbrev file : List ℕ
file =
    82 ∷ 73 ∷ 70 ∷ 70 ∷ 40 ∷ 0 ∷ 0 ∷ 0 ∷ 87 ∷ 65 ∷ 86 ∷ 69 ∷ 102 ∷ 109 ∷ 116 ∷ 32 ∷ 16 ∷ 0 ∷ 0 ∷ 0 ∷ 1 ∷ 0 ∷ 2 ∷ 0
    ∷ 68 ∷ 172 ∷ 0 ∷ 0 ∷ 16 ∷ 177 ∷ 2 ∷ 0 ∷ 4 ∷ 0 ∷ 16 ∷ 0 ∷ 100 ∷ 97 ∷ 116 ∷ 97 ∷ 4 ∷ 0 ∷ 0 ∷ 0 ∷ 254 ∷ 255 ∷ 255 ∷ 127 ∷ []

pub file-of-a-frame : recording_of frame ≡ file
unfolding recording_of heading_of poured_of pcm_of pcm_of_k k_of mod_z
file-of-a-frame = refl

-- poured into six bytes: four are written
pub pour-of-a-frame : poured_into frame (9 ∷ 9 ∷ 9 ∷ 9 ∷ 9 ∷ 9 ∷ []) ≡ 254 ∷ 255 ∷ 255 ∷ 127 ∷ 9 ∷ 9 ∷ []
unfolding poured_into pour_number is_broken is_output poured_of pcm_of pcm_of_k k_of mod_z
pour-of-a-frame = refl

-- read with room for three: two are written
pub frame-of-a-file : replayed file (pos 9 ∷ pos 9 ∷ pos 9 ∷ []) ≡ negsuc 1 ∷ pos 32767 ∷ pos 9 ∷ []
unfolding replayed read_number is_recording same_bytes heading_of pcms_in
frame-of-a-file = refl

-- its numbers as floats, written into 49 bytes: the same file, and one byte is left
pub file-again : recorded (map number_of (negsuc 1 ∷ pos 32767 ∷ [])) (replicate 49 9) ≡ file ++ (9 ∷ [])
unfolding recorded write_number is_broken is_output recording_of heading_of poured_of pcm_of pcm_of_k k_of mod_z number_of Ieee.round Ieee.size Ieee.units Ieee.odd Ieee.span Ieee.climb Count.count_trailing_zeros
file-again = refl

-- the frame twice: streamed into outputs of their own, and written at once
pub streamed-twice :
    take 44 (headed 2 (replicate 44 9)) ++ poured_bytes (record { numbers = frame; out = replicate 4 9 } ∷ record { numbers = frame; out = replicate 5 9 } ∷ [])
    ≡ file_in (frame ++ frame) (replicate 52 9)
unfolding headed heading_number poured_into pour_number recorded write_number recording_of heading_of is_broken is_output poured_of pcm_of pcm_of_k k_of mod_z
streamed-twice = refl

-- its answer
pub answer-of-a-file : heard_of file 3 ≡ record { number = 0; frames = 1 }
unfolding heard_of read_number is_recording same_bytes heading_of
answer-of-a-file = refl

-- -0 is 0, and passes
pub minus-zero : (is_output (fin true 0 (pos 0)) ≡ true) × (pcm_of (fin true 0 (pos 0)) ≡ pos 0)
unfolding is_output pcm_of pcm_of_k k_of
minus-zero = (refl, refl)

-- 13: one number; no number; an infinity; a half of 2^-23; 2^-23 more than 1
pub refused-13 :
    (write_number (right ∷ []) 100 ≡ 13) × (write_number (nan ∷ right ∷ []) 100 ≡ 13) × (write_number (right ∷ inf true ∷ []) 100 ≡ 13)
    × (pour_number (fin false 1 (negsuc 23) ∷ right ∷ []) 100 ≡ 13) × (pour_number (right ∷ fin true 8388609 (negsuc 22) ∷ []) 100 ≡ 13)
unfolding write_number pour_number is_broken is_output
refused-13 = (refl, refl, refl, refl, refl)

-- 14: one frame more than the most
pub refused-14 : heading_number 1073741815 44 ≡ 14
unfolding heading_number
refused-14 = refl

-- .. of as many numbers
many-clean : (n : ℕ) → any_of is_other (replicate n right) ≡ false
unfolding is_output
many-clean zero = refl
many-clean (suc n) = many-clean n

pub refused-14-numbers : (n room : ℕ) → most_frames < n → write_number (replicate (2 * n) right) room ≡ 14
refused-14-numbers n room h =
    let l = length-replicate (2 * n) right in
    write-14 (replicate (2 * n) right) room (whole_of (replicate (2 * n) right) (omega arith) (many-clean (2 * n))) (omega arith)

-- 15: one byte, or one number, too few
pub refused-15 : (write_number frame 47 ≡ 15) × (heading_number 1 43 ≡ 15) × (pour_number frame 3 ≡ 15) × (read_number file 1 ≡ 15)
unfolding write_number heading_number pour_number read_number is_recording same_bytes heading_of is_broken is_output
refused-15 = (refl, refl, refl, refl)

-- 28: a byte too few; one too many; a heading of one channel
pub refused-28 :
    (read_number (take 47 file) 9 ≡ 28) × (read_number (file ++ (0 ∷ [])) 9 ≡ 28)
    × (read_number (take 22 file ++ (1 ∷ drop 23 file)) 9 ≡ 28) × (read_number [] 9 ≡ 28)
unfolding read_number is_recording same_bytes heading_of
refused-28 = (refl, refl, refl, refl)
