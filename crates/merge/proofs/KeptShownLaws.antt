-- A song of two tracks, computed: what is written for it, and what M-101 reads of that.
use mathlib.Core.List.{List, [], ◌∷◌}
use mathlib.Core.Path.{◌≡◌, refl}
use Prim.Native.Nat.{ℕ}
use Rattle.arith.specs.Bytes.{u8_at}
use Rattle.arith.specs.Holds.{between}
use Rattle.smf.specs.declared.Event.{Event}
use Rattle.smf.specs.Quantities.{two_at, three_at, four_at, quantity_from, quantity_at}
use Rattle.smf.specs.Head.{chunk_end, track_from, head_of}
use Rattle.smf.specs.Items.{short_at, long_at, spoken_at, exclusive_at, meta_of, meta_at, item_at}
use Rattle.smf.specs.Ticks.{frame_of}
use Rattle.smf.specs.Track.{Events, acted, obeyed, meet_at, song_from}
use Rattle.smf.specs.Songs.{events_of}
use Rattle.smf.specs.Spelling.{two_bytes, three_bytes, four_bytes, quantity_bytes, status_bytes, data_bytes, event_bytes, track_bytes, file_bytes}
use Rattle.merge.specs.Fronts.{count_number, front_of}
use Rattle.merge.specs.Entries.{settled_at, advanced_of, entries_from, flaw_from}
use Rattle.merge.specs.Lanes.{lanes_from, flaw_in, entries_of}
use Rattle.merge.specs.Order.{inserted, in_order}
use Rattle.merge.specs.Lateness.{late_from}
use Rattle.merge.specs.Bridges.{bridges_of, rest_of, bridged}
use Rattle.merge.specs.Marks.{last_end_from, marks_from, last_from, score_of}
use Rattle.merge.specs.Merging.{Joined, joined_file, fitted, joined_of, merged_of}

-- format 1, two tracks, 96 ticks of a quarter note. The first: a bell, struck at tick 0 and left at tick 96 with its status running, and its end there. The second: half
-- the pace from tick 0 on, another bell struck at tick 96 and left at tick 192 with its status running, and its end there
abbrev two_tracks : List ℕ
two_tracks =
    77 ∷ 84 ∷ 104 ∷ 100 ∷ 0 ∷ 0 ∷ 0 ∷ 6 ∷ 0 ∷ 1 ∷ 0 ∷ 2 ∷ 0 ∷ 96 ∷
    77 ∷ 84 ∷ 114 ∷ 107 ∷ 0 ∷ 0 ∷ 0 ∷ 11 ∷
    0 ∷ 144 ∷ 60 ∷ 100 ∷
    96 ∷ 60 ∷ 0 ∷
    0 ∷ 255 ∷ 47 ∷ 0 ∷
    77 ∷ 84 ∷ 114 ∷ 107 ∷ 0 ∷ 0 ∷ 0 ∷ 18 ∷
    0 ∷ 255 ∷ 81 ∷ 3 ∷ 15 ∷ 66 ∷ 64 ∷
    96 ∷ 145 ∷ 64 ∷ 100 ∷
    96 ∷ 64 ∷ 0 ∷
    0 ∷ 255 ∷ 47 ∷ 0 ∷ []

-- merged: on tick 96 the first track comes first. The tempo change ends running status, and so does the other track's bell; one end of track is left
abbrev one_track : List ℕ
one_track =
    77 ∷ 84 ∷ 104 ∷ 100 ∷ 0 ∷ 0 ∷ 0 ∷ 6 ∷ 0 ∷ 0 ∷ 0 ∷ 1 ∷ 0 ∷ 96 ∷
    77 ∷ 84 ∷ 114 ∷ 107 ∷ 0 ∷ 0 ∷ 0 ∷ 26 ∷
    0 ∷ 144 ∷ 60 ∷ 100 ∷
    0 ∷ 255 ∷ 81 ∷ 3 ∷ 15 ∷ 66 ∷ 64 ∷
    96 ∷ 144 ∷ 60 ∷ 0 ∷
    0 ∷ 145 ∷ 64 ∷ 100 ∷
    96 ∷ 64 ∷ 0 ∷
    0 ∷ 255 ∷ 47 ∷ 0 ∷ []

-- its events: a quarter note lasts a second, 44,100 frames
abbrev four_events : List Event
four_events =
    record { frame = 0; status = 144; first = 60; second = 100 } ∷
    record { frame = 44100; status = 144; first = 60; second = 0 } ∷
    record { frame = 44100; status = 145; first = 64; second = 100 } ∷
    record { frame = 88200; status = 145; first = 64; second = 0 } ∷ []

-- it is written so into a room of 48 bytes, and refused in one of 47; merged again it is the same
pub record Two-tracks : Type 0 where
  pub written : merged_of two_tracks 48 ≡ Joined.Issued one_track
  pub no_room : merged_of two_tracks 47 ≡ Joined.Declined 43 0
  pub again : merged_of one_track 48 ≡ Joined.Issued one_track
  pub events : events_of one_track ≡ Events four_events

-- so it is
pub two-tracks : Two-tracks
unfolding u8_at between two_at three_at four_at quantity_from quantity_at chunk_end track_from head_of short_at long_at spoken_at exclusive_at meta_of meta_at item_at frame_of acted obeyed meet_at song_from events_of two_bytes three_bytes four_bytes quantity_bytes status_bytes data_bytes event_bytes track_bytes file_bytes count_number front_of settled_at advanced_of entries_from flaw_from lanes_from flaw_in entries_of inserted in_order late_from bridges_of rest_of bridged last_end_from marks_from last_from score_of joined_file fitted joined_of merged_of
two-tracks = record { written = refl; no_room = refl; again = refl; events = refl }
