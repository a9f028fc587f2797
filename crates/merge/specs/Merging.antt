-- Songs of several tracks: from the bytes of a file of format 0 or 1 to those of one of format 0, or its refusal.
use Rattle.std.specs.Prelude.{cond, Bool, true, List, ◌++◌, ℕ, ◌+◌, min, ltb, length, drop, Option, Some, None}
use Rattle.smf.specs.Spelling.{file_bytes}
use Rattle.merge.specs.declared.Entry.{Entry}
use Rattle.merge.specs.declared.Front.{Front}
use Rattle.merge.specs.declared.Front.TheVariants.{Song}
use Rattle.merge.specs.declared.Merged.{Merged}
use Rattle.merge.specs.Fronts.{front_of}
use Rattle.merge.specs.Lanes.{lanes_from, flaw_in, entries_of}
use Rattle.merge.specs.Order.{in_order}
use Rattle.merge.specs.Lateness.{late_of}
use Rattle.merge.specs.Marks.{score_of}

-- a refusal with its number and place, or the bytes that are written
pub data Joined : Type 0 where
  Declined : (number place : ℕ) → Joined
  Issued : List ℕ → Joined

-- the one sequence of the events of n tracks, from a place on
abbrev pub sequence_of : ℕ → List ℕ → ℕ → List Entry
sequence_of n b at = in_order (entries_of b (lanes_from n b at))

-- a sequence as a file: a status byte is left out wherever it runs
unfoldable pub joined_file : ℕ → List Entry → List ℕ
joined_file division es = file_bytes (λ k. true) (score_of division es)

-- a file that has to fit into a room
unfoldable pub fitted : ℕ → List ℕ → Joined
fitted room bytes = cond (ltb room (length bytes)) (Declined 43 0) (Issued bytes)

-- what is past an hour goes before what is not well formed, which lies behind it
abbrev pub judged : Option ℕ → Option ℕ → Joined → Joined
judged (Some place) flaw o = Declined 11 place
judged None (Some place) o = Declined 9 place
judged None None o = o

-- a file of n tracks, whose chunks stand from a place on
unfoldable pub joined_of : List ℕ → ℕ → ℕ → ℕ → ℕ → Joined
joined_of b n division at room =
    judged (late_of division (sequence_of n b at)) (flaw_in n b at) (fitted room (joined_file division (sequence_of n b at)))

-- the room for a file: a chunk's length has 32 bits, and 22 bytes stand in front of the track
abbrev pub room_of : List ℕ → ℕ
room_of out = min (length out) 4294967317

-- a file in so much room: its length before everything else, then the head, then the tracks
unfoldable pub merged_of : List ℕ → ℕ → Joined
merged_of b room =
    cond (ltb 16777216 (length b)) (Declined 9 16777216)
    (elim (front_of b) [ Front.Refused number place ↦ Declined number place | Song count division at ↦ joined_of b count division at room ])

-- the answer: 0 and how many bytes are written, or the refusal
abbrev pub answer_of : Joined → Merged
answer_of (Declined number place) = record { number = number; place = place; size = 0 }
answer_of (Issued bytes) = record { number = 0; place = 0; size = length bytes }

-- the output behind an outcome: a refusal leaves it as it was
abbrev pub written_into : Joined → List ℕ → List ℕ
written_into (Declined number place) out = out
written_into (Issued bytes) out = bytes ++ drop (length bytes) out
