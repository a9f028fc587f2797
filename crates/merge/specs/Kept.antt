-- Songs of several tracks: what is promised of merging. The events are kept, in one sequence, and merging again changes no byte.
use Rattle.std.specs.Prelude.{cond, List, [], ◌∷◌, ◌⊎◌, ◌≡◌, ℕ, ◌≤◌, eqb, length}
use Rattle.arith.specs.Bytes.{AllBytes}
use Rattle.smf.specs.declared.Event.{Event}
use Rattle.smf.specs.Quantities.{two_at}
use Rattle.smf.specs.Track.{Events, Refused}
use Rattle.smf.specs.Songs.{events_of}
use Rattle.merge.specs.declared.Entry.{Entry}
use Rattle.merge.specs.declared.Front.{Front}
use Rattle.merge.specs.Fronts.{front_of}
use Rattle.merge.specs.Order.{in_order}
use Rattle.merge.specs.Lateness.{struck_of}
use Rattle.merge.specs.Merging.{Joined, sequence_of, joined_file, room_of, merged_of}

-- ---- 1. The one sequence

-- none of some events is earlier than a tick
abbrev pub NoneBefore : ℕ → List Entry → Type 0
NoneBefore tick [] = Unit {0}
NoneBefore tick (e ∷ es) = (tick ≤ e.tick) × NoneBefore tick es

-- the ticks of some events never fall
abbrev pub TicksRise : List Entry → Type 0
TicksRise [] = Unit {0}
TicksRise (e ∷ es) = NoneBefore e.tick es × TicksRise es

-- those of some events that are on a tick, in their order
unfoldable pub on_tick : ℕ → List Entry → List Entry
on_tick tick [] = []
on_tick tick (e ∷ es) = cond (eqb e.tick tick) (e ∷ on_tick tick es) (on_tick tick es)

-- in the one sequence ticks never fall, and on each tick are the events that were on it, in the order in which the tracks have them: none is lost, added or swapped
abbrev pub InSequence : Type 0
InSequence = (es : List Entry) → TicksRise (in_order es) × ((tick : ℕ) → on_tick tick (in_order es) ≡ on_tick tick es)

-- ---- 2. What is written

-- what is written for a file of some bytes, where M-101 has room for it: its events are those of the one sequence
abbrev pub EventsKept : Type 0
EventsKept =
    (b w : List ℕ) (room count division at : ℕ) → AllBytes b → front_of b ≡ Front.Song count division at → merged_of b room ≡ Joined.Issued w → length w ≤ 65536
    → events_of w ≡ Events (struck_of division (sequence_of count b at))

-- merging again what was written changes no byte, in any room that holds it
abbrev pub MergedAgain : Type 0
MergedAgain =
    (b w : List ℕ) (room again : ℕ) → AllBytes b → merged_of b room ≡ Joined.Issued w → length w ≤ 16777216 → length w ≤ again
    → merged_of w again ≡ Joined.Issued w

-- ---- 3. Files of format 0

-- a file of format 0 that M-101 reads: the events of its sequence are those that M-101 gives
abbrev pub SameAsRead : Type 0
SameAsRead =
    (b : List ℕ) (es : List Event) (count division at : ℕ) → two_at b 8 ≡ 0 → events_of b ≡ Events es → front_of b ≡ Front.Song count division at
    → struck_of division (sequence_of count b at) ≡ es

-- so it is refused for want of room alone, and what is written for it has its events, where M-101 has room for that
abbrev pub MergedAsRead : Type 0
MergedAsRead =
    (b : List ℕ) (es : List Event) (room : ℕ) → AllBytes b → two_at b 8 ≡ 0 → events_of b ≡ Events es
    → (merged_of b room ≡ Joined.Declined 43 0) ⊎ ((w : List ℕ) × (merged_of b room ≡ Joined.Issued w) × (length w ≤ 65536 → events_of w ≡ Events es))

-- one that M-101 refuses, and that is not too long for M-101, is refused with the same number and place
abbrev pub RefusedAsRead : Type 0
RefusedAsRead =
    (b : List ℕ) (number place room : ℕ) → length b ≤ 65536 → two_at b 8 ≡ 0 → events_of b ≡ Refused number place
    → merged_of b room ≡ Joined.Declined number place

-- ---- 4. Lengths

-- what is written is never longer than the 32 bits of a chunk's length say, with the 22 bytes in front of the track
abbrev pub NeverSoLong : Type 0
NeverSoLong =
    (b : List ℕ) (count division at : ℕ) → AllBytes b → length b ≤ 16777216 → front_of b ≡ Front.Song count division at
    → length (joined_file division (sequence_of count b at)) ≤ 4294967317

-- so the 32 bits never refuse a song: the room for a file is as good as all of the output
abbrev pub RoomIsLength : Type 0
RoomIsLength = (b out : List ℕ) → AllBytes b → merged_of b (room_of out) ≡ merged_of b (length out)
