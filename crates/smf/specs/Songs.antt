-- 02, M-101: a whole file: its events, its test, its opening, and the next event.
use Rattle.std.specs.Prelude.{cond, List, [], ◌∷◌, ℕ, ◌+◌, ltb, length}
use Rattle.smf.specs.declared.Cursor.{Cursor}
use Rattle.smf.specs.declared.Event.{Event}
use Rattle.smf.specs.declared.Handed.{Handed}
use Rattle.smf.specs.declared.Header.{Header}
use Rattle.smf.specs.declared.Header.TheVariants.{Track}
use Rattle.smf.specs.declared.Opening.{Opening}
use Rattle.smf.specs.declared.Tested.{Tested}
use Rattle.smf.specs.Quantities.{two_at}
use Rattle.smf.specs.Head.{head_of}
use Rattle.smf.specs.Items.{is_short}
use Rattle.smf.specs.Track.{Song, Events, Refused, song_from, next_from, over}

-- at the track's first delta time: no status runs, the tempo is 500,000 and U is 0
abbrev pub start_at : List ℕ → ℕ → ℕ → Cursor
start_at b at end = record { at = at; end = end; running = 0; division = two_at b 12; tempo = 500000; sum = 0 }

-- how many events a track has at most, with one more for its end: each takes a byte or more
abbrev pub turns : List ℕ → ℕ
turns b = length b + 1

-- a file's channel events, or its first fault: the length before everything else, then the head, then the track
unfoldable pub events_of : List ℕ → Song
events_of b =
    cond (ltb 65536 (length b)) (Refused 9 65536)
    (elim (head_of b) [ Header.Refused number place ↦ Refused number place | Track at end ↦ song_from (turns b) b (start_at b at end) ])

-- the bytes of an event, running status written out
unfoldable pub bytes_of : Event → List ℕ
bytes_of e = cond (is_short e.status) (e.status ∷ e.first ∷ []) (e.status ∷ e.first ∷ e.second ∷ [])

-- number and place of a song: 0 and 0 where it is not refused
abbrev pub verdict : Song → Tested
verdict (Refused number place) = record { number = number; place = place }
verdict (Events es) = record { number = 0; place = 0 }

-- the cursor in front of the track that the head leads to
abbrev pub track_cursor : Header → List ℕ → Cursor
track_cursor (Header.Refused number place) b = over
track_cursor (Track at end) b = start_at b at end

-- the cursor with which a file is read: a refused one gives no event
abbrev pub first_cursor : Song → List ℕ → Cursor
first_cursor (Refused number place) b = over
first_cursor (Events es) b = track_cursor (head_of b) b

-- the test of a whole file
unfoldable pub test_of : List ℕ → Tested
test_of b = verdict (events_of b)

-- the opening of a file: its test, and the cursor in front of its first event
unfoldable pub opening_of : List ℕ → Opening
opening_of b = record { number = (test_of b).number; place = (test_of b).place; cursor = first_cursor (events_of b) b }

-- the next channel event of a file that is lent, and the cursor behind it
unfoldable pub handed_of : List ℕ → Cursor → Handed
handed_of b c = next_from (turns b) b c
