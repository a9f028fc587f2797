-- 02, M-101: what can be wrong with a file, each case by itself, and the first of what is: the numbers and places of refusals, with no order of tests.
use Rattle.std.specs.Prelude.{List, ◌⊎◌, ◌≡◌, ℕ, ◌+◌, ◌*◌, ◌<◌, ◌≤◌, length, None}
use Rattle.smf.specs.declared.Cursor.{Cursor}
use Rattle.smf.specs.declared.Event.{Event}
use Rattle.smf.specs.declared.Item.{Item}
use Rattle.smf.specs.declared.Message.{Message}
use Rattle.smf.specs.declared.Met.TheVariants.{Passed, Given}
use Rattle.smf.specs.Quantities.{two_at, four_at, quantity_at, quantity}
use Rattle.smf.specs.Head.{head_name, track_name, chunk_end}
use Rattle.smf.specs.Items.{item_at}
use Rattle.smf.specs.Ticks.{sum_after}
use Rattle.smf.specs.Track.{Events, Refused, edge_of, meet_at}
use Rattle.smf.specs.Songs.{start_at, events_of}

-- a chunk that lies in the file, with its name and its length
pub record Whole (b : List ℕ) (at : ℕ) : Type 0 where
  pub name_in : at + 4 ≤ length b
  pub body-in : chunk_end b at ≤ length b

-- a place where a chunk is looked for: behind the head, and behind each whole chunk that is not named MTrk, as long as no track is found
pub data Chunked (b : List ℕ) : ℕ → Type 0 where
  behind-head : Chunked b (chunk_end b 0)
  behind-other : (at : ℕ) → Chunked b at → Whole b at → (four_at b at ≡ track_name → ⊥) → Chunked b (chunk_end b at)

-- the track: a whole chunk named MTrk, behind others only
pub record Tracked (b : List ℕ) (at : ℕ) : Type 0 where
  pub looked : Chunked b at
  pub whole : Whole b at
  pub name : four_at b at ≡ track_name

-- a cursor in front of a delta time: where the track begins, and behind each event that is met
pub data Arrived (b : List ℕ) : Cursor → Type 0 where
  begins : (at : ℕ) → Tracked b at → Arrived b (start_at b (at + 8) (chunk_end b at))
  behind-passed : (c further : Cursor) → Arrived b c → meet_at b c ≡ Passed further → Arrived b further
  behind-given : (c : Cursor) (message : Message) (further : Cursor) → Arrived b c → meet_at b c ≡ Given message further → Arrived b further

-- the delta time at a cursor: so many ticks, and the place of the event behind it
abbrev pub DeltaAt : List ℕ → Cursor → ℕ → ℕ → Type 0
DeltaAt b c ticks place = quantity_at b (edge_of b c) c.at ≡ quantity ticks place

-- what can be wrong, with its number and its place
pub data Wrong (b : List ℕ) : ℕ → ℕ → Type 0 where
  -- the file does not begin with MThd
  no-head : (four_at b 0 ≡ head_name → ⊥) → Wrong b 9 0
  -- the head's length is below 6
  short-head : four_at b 4 < 6 → Wrong b 9 4
  -- the head goes past the file's end
  long-head : length b < chunk_end b 0 → Wrong b 9 4
  -- the format is not 0
  format : (two_at b 8 ≡ 0 → ⊥) → Wrong b 10 8
  -- the number of tracks is not 1
  tracks : (two_at b 10 ≡ 1 → ⊥) → Wrong b 9 10
  -- the division is 0
  no-division : two_at b 12 ≡ 0 → Wrong b 9 12
  -- the division is in SMPTE frames
  smpte : 32767 < two_at b 12 → Wrong b 10 12
  -- there is no track: no chunk's name is where one is looked for
  no_chunk : (at : ℕ) → Chunked b at → length b < at + 4 → Wrong b 9 at
  -- a chunk's length field is cut off, or its body goes past the file's end
  long-chunk : (at : ℕ) → Chunked b at → at + 4 ≤ length b → length b < chunk_end b at → Wrong b 9 (at + 4)
  -- a delta time is cut off or longer than four bytes, or the track has no end
  delta : (c : Cursor) → Arrived b c → quantity_at b (edge_of b c) c.at ≡ None → Wrong b 9 c.at
  -- an event is not well formed
  event : (c : Cursor) (ticks place : ℕ) → Arrived b c → DeltaAt b c ticks place → item_at b (edge_of b c) c.running place ≡ Item.Bad → Wrong b 9 place
  -- an event is past an hour, whatever it is
  late : (c : Cursor) (ticks place : ℕ) → Arrived b c → DeltaAt b c ticks place → 3600000000 * c.division < sum_after c ticks → Wrong b 11 place

-- the first of what is wrong: nothing is wrong in front of it, and nothing of a smaller number at its place
pub record First (b : List ℕ) (number place : ℕ) : Type 0 where
  pub wrong : Wrong b number place
  pub before : (n p : ℕ) → Wrong b n p → (place < p) ⊎ ((place ≡ p) × (number ≤ n))

-- a file of more than 65,536 bytes is refused by 9 at 65,536, whatever else is wrong
abbrev pub LongRefused : Type 0
LongRefused = (b : List ℕ) → 65536 < length b → events_of b ≡ Refused 9 65536

-- any other refusal is of the first that is wrong
abbrev pub RefusedFirst : Type 0
RefusedFirst = (b : List ℕ) (number place : ℕ) → length b ≤ 65536 → events_of b ≡ Refused number place → First b number place

-- and the first that is wrong is refused
abbrev pub FirstRefused : Type 0
FirstRefused = (b : List ℕ) (number place : ℕ) → length b ≤ 65536 → First b number place → events_of b ≡ Refused number place

-- in a file that is not refused nothing is wrong
abbrev pub GoodNotWrong : Type 0
GoodNotWrong = (b : List ℕ) (es : List Event) → events_of b ≡ Events es → (length b ≤ 65536) × ((number place : ℕ) → Wrong b number place → ⊥)

-- and one in which nothing is wrong is not refused
abbrev pub NotWrongGood : Type 0
NotWrongGood = (b : List ℕ) → length b ≤ 65536 → ((number place : ℕ) → Wrong b number place → ⊥) → (es : List Event) × (events_of b ≡ Events es)
