-- 02, M-101: what stands behind the end of track. Bytes there change nothing.
use Rattle.std.specs.Prelude.{List, ◌++◌, ◌≡◌, ℕ, zero, suc, ◌+◌, ◌<◌, ◌≤◌, length, Some, None}
use Rattle.arith.specs.Bytes.{u8_at}
use Rattle.smf.specs.declared.Cursor.{Cursor}
use Rattle.smf.specs.declared.Event.{Event}
use Rattle.smf.specs.declared.Header.TheVariants.{Refused, Track}
use Rattle.smf.specs.declared.Met.TheVariants.{Fault, End, Passed, Given}
use Rattle.smf.specs.Quantities.{quantity_at}
use Rattle.smf.specs.Head.{head_of}
use Rattle.smf.specs.Track.{Events, edge_of, meet_at}
use Rattle.smf.specs.Songs.{events_of, start_at, turns}
use Rattle.smf.specs.Reading.{offered}

-- behind the end of track event at a place: FF, 2F, its length, and so many bytes
unfoldable pub behind_end : List ℕ → ℕ → ℕ → ℕ
behind_end b edge at = elim (quantity_at b edge (at + 2)) [ None ↦ at + 2 | Some q ↦ q.behind + q.value ]

-- behind the delta time at a cursor and the end of track event that follows it
unfoldable pub behind_met : List ℕ → Cursor → ℕ
behind_met b c = elim (quantity_at b (edge_of b c) c.at) [ None ↦ c.at | Some q ↦ behind_end b (edge_of b c) q.behind ]

-- behind the end of track, from a cursor on, over at most n events
unfoldable pub end_from : ℕ → List ℕ → Cursor → ℕ
end_from zero b c = c.at
end_from (suc n) b c =
    elim (meet_at b c) [
      | Fault number place ↦ c.at
      | End ↦ behind_met b c
      | Passed further ↦ end_from n b further
      | Given message further ↦ end_from n b further
    ]

-- the place behind the end of track event of a file that is not refused
unfoldable pub end_of_track : List ℕ → ℕ
end_of_track b = elim (head_of b) [ Refused number place ↦ 0 | Track at end ↦ end_from (turns b) b (start_at b at end) ]

-- where the track's chunk ends, by its length field
unfoldable pub chunk_of_track : List ℕ → ℕ
chunk_of_track b = elim (head_of b) [ Refused number place ↦ 0 | Track at end ↦ end ]

-- the end of track lies in the track's chunk
abbrev pub EndsInChunk : Type 0
EndsInChunk = (b : List ℕ) (es : List Event) → events_of b ≡ Events es → end_of_track b ≤ chunk_of_track b

-- another file has the same bytes in front of a place
abbrev pub SameBelow : List ℕ → List ℕ → ℕ → Type 0
SameBelow b other place = (i : ℕ) → i < place → u8_at other i ≡ u8_at b i

-- a file that is not refused, and any other that has the same bytes up to the end of track event, is not cut off in front of the end of the track's chunk, and is
-- not too long: it gives the same events
abbrev pub BehindChangesNothing : Type 0
BehindChangesNothing =
    (b other : List ℕ) (es : List Event) → events_of b ≡ Events es → SameBelow b other (end_of_track b) → chunk_of_track b ≤ length other → length other ≤ 65536
    → events_of other ≡ Events es

-- the same of a file in two parts, with its end of track in the first: any other second part, chunks among it, will do
abbrev pub TailChangesNothing : Type 0
TailChangesNothing =
    (front tail other : List ℕ) (es : List Event) → events_of (front ++ tail) ≡ Events es → end_of_track (front ++ tail) ≤ length front
    → chunk_of_track (front ++ tail) ≤ length (front ++ other) → length (front ++ other) ≤ 65536 → events_of (front ++ other) ≡ Events es

-- and a reader hands out the same, next by next
abbrev pub BehindReadsTheSame : Type 0
BehindReadsTheSame =
    (b other : List ℕ) (es : List Event) → events_of b ≡ Events es → SameBelow b other (end_of_track b) → chunk_of_track b ≤ length other → length other ≤ 65536
    → (k : ℕ) → offered other k ≡ offered b k
