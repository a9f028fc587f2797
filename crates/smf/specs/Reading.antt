-- 02, M-101: what a reader hands out, next by next, is the song of the file: each event once, in file order, at frames that never fall.
use Rattle.std.specs.Prelude.{true, List, [], ◌∷◌, ◌≡◌, ℕ, zero, suc, ◌<◌, ◌≤◌, Option, Some, None}
use Rattle.smf.specs.declared.Cursor.{Cursor}
use Rattle.smf.specs.declared.Event.{Event}
use Rattle.smf.specs.Items.{is_short}
use Rattle.smf.specs.Track.{Song, Events, Refused}
use Rattle.smf.specs.Songs.{events_of, opening_of, handed_of}

-- the cursor after so many nexts from the opening on
unfoldable pub cursor_after : List ℕ → ℕ → Cursor
cursor_after b zero = (opening_of b).cursor
cursor_after b (suc k) = (handed_of b (cursor_after b k)).cursor

-- what next number k offers, from 0
unfoldable pub offered : List ℕ → ℕ → Option Event
offered b k = (handed_of b (cursor_after b k)).event

-- event number k of a list, from 0; none past the last
abbrev pub event_at : List Event → ℕ → Option Event
event_at [] k = None
event_at (e ∷ es) zero = Some e
event_at (e ∷ es) (suc k) = event_at es k

-- event number k of a song; a refused one has none
abbrev pub entry : Song → ℕ → Option Event
entry (Refused number place) k = None
entry (Events es) k = event_at es k

-- the nexts hand out the events of the file, each once and in its order, and then no more; of a refused file none, whatever is asked of it
abbrev pub ReadsAll : Type 0
ReadsAll = (b : List ℕ) (k : ℕ) → offered b k ≡ entry (events_of b) k

-- frames never fall from one event that is handed out to a later one
abbrev pub NeverFall : Type 0
NeverFall = (b : List ℕ) (i j : ℕ) (e f : Event) → i ≤ j → offered b i ≡ Some e → offered b j ≡ Some f → e.frame ≤ f.frame

-- an event in its ranges: a status of a channel, data bytes, 0 where there is no second one, and a frame within an hour
pub record InRange (e : Event) : Type 0 where
  pub low : 128 ≤ e.status
  pub high : e.status ≤ 239
  pub first-in : e.first < 128
  pub second-in : e.second < 128
  pub one_byte : is_short e.status ≡ true → e.second ≡ 0
  pub within-hour : e.frame ≤ 158760000

-- every event that is handed out is, from any cursor, of any bytes
abbrev pub AllInRange : Type 0
AllInRange = (b : List ℕ) (c : Cursor) (e : Event) → (handed_of b c).event ≡ Some e → InRange e
