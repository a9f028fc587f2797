-- The player: its state, the event that comes next, and when that is due.
use Rattle.std.specs.Prelude.{ℕ, ◌+◌, ◌-◌, ◌%◌, Bool, cond, not, ◌&&◌, nat_le, nat_lt, Option, None, is_none, unwrap_or}
use Rattle.smf.specs.declared.Event.{Event}
use Rattle.smf.specs.declared.Handed.{Handed}
use Rattle.smf.specs.declared.Cursor.{Cursor}
use Rattle.smf.specs.Track.{over}
use Rattle.state.specs.declared.Engine.{Engine}
use Rattle.state.specs.Quiet.{fresh}
use Rattle.player.specs.declared.Player.{Player}

-- a fresh player: a fresh engine, and no song
abbrev pub idle : Player
idle = record { engine = fresh; cursor = over; event = None; began = 0 }

-- no event is left, or no song was started
abbrev pub song_over : Player → Bool
song_over p = is_none p.event

-- an event of zeros, for what is asked of the event that comes next where none does
abbrev pub no_event : Event
no_event = record { frame = 0; status = 0; first = 0; second = 0 }

-- the event that comes next
abbrev pub coming_event : Player → Event
coming_event p = unwrap_or p.event no_event

-- the player with another engine
abbrev pub with_engine : Player → Engine → Player
with_engine p e = record { engine = e; cursor = p.cursor; event = p.event; began = p.began }

-- the player with what is offered as the event that comes next, and the cursor behind it
abbrev pub coming : Player → Cursor → Option Event → Player
coming p c o = record { engine = p.engine; cursor = c; event = o; began = p.began }

-- .. with what was handed out
abbrev pub cued : Player → Handed → Player
cued p h = coming p h.cursor h.event

-- the frames since the song began, modulo 2^32
unfoldable pub since : Player → ℕ
since p = (p.engine.clock + 4294967296 - p.began) % 4294967296

-- an event comes, and its frame is reached, or was missed
abbrev pub is_due : Player → Bool
is_due p = not (song_over p) && nat_le (coming_event p).frame (since p)

-- the frames up to the next event, 0 where it is due
abbrev pub wait_of : Player → ℕ
wait_of p = (coming_event p).frame - since p

-- the same, at most so many; all of them where none comes
unfoldable pub gap_of : Player → ℕ → ℕ
gap_of p most = cond (song_over p) most (cond (nat_lt (wait_of p) most) (wait_of p) most)
