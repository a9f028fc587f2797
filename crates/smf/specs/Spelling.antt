-- 02, M-101: files of format 0, written: a score as bytes, with running status and without. Both give the same events.
use Rattle.smf.specs.Track.{Events}
use Rattle.std.specs.Prelude.{cond, Bool, true, false, not, ◌&&◌, List, [], ◌∷◌, ◌++◌, ◌⊎◌, ◌≢◌, ◌≡◌, ℕ, suc, ◌+◌, ◌*◌, ◌/◌, ◌%◌, ◌<◌, ◌≤◌, ltb, eqb, length}
use Rattle.arith.specs.Bytes.{AllBytes}
use Rattle.arith.specs.Holds.{between}
use Rattle.smf.specs.declared.Event.{Event}
use Rattle.smf.specs.Ticks.{is_late, frame_of}
use Rattle.smf.specs.Songs.{events_of, test_of}
use Rattle.smf.specs.Reading.{offered}

-- ---- 1. A score

-- so many ticks behind what is in front of it: a channel event; a tempo in microseconds of a quarter note; another meta event, as a text; or a system exclusive event,
-- F0 or F7
pub data Mark : Type 0 where
  Channel : (ticks status first second : ℕ) → Mark
  Tempo : (ticks tempo : ℕ) → Mark
  Meta : (ticks kind : ℕ) → List ℕ → Mark
  Exclusive : (ticks status : ℕ) → List ℕ → Mark

-- the ticks of a quarter note, the marks, and the ticks from the last of them to the end of track
pub record Score : Type 0 where
  pub division : ℕ
  pub marks : List Mark
  pub last : ℕ

-- a quantity has at most 28 bits
abbrev pub IsQuantity : ℕ → Type 0
IsQuantity n = n < 268435456

-- a status with one data byte: program change and channel pressure
abbrev pub has_one : ℕ → Bool
has_one status = between 192 223 status

-- what a mark may be: the second data byte is 0 where the status has one; another meta event is not of type 2F or 51
abbrev pub GoodMark : Mark → Type 0
GoodMark (Channel ticks status first second) =
    IsQuantity ticks × (128 ≤ status) × (status ≤ 239) × (first < 128) × (second < 128) × (has_one status ≡ true → second ≡ 0)
GoodMark (Tempo ticks tempo) = IsQuantity ticks × (tempo < 16777216)
GoodMark (Meta ticks kind bytes) = IsQuantity ticks × (kind < 128) × (kind ≢ 47) × (kind ≢ 81) × IsQuantity (length bytes) × AllBytes bytes
GoodMark (Exclusive ticks status bytes) = IsQuantity ticks × ((status ≡ 240) ⊎ (status ≡ 247)) × IsQuantity (length bytes) × AllBytes bytes

-- .. of each of some marks
abbrev pub GoodMarks : List Mark → Type 0
GoodMarks [] = Unit {0}
GoodMarks (m ∷ ms) = GoodMark m × GoodMarks ms

-- .. of a score
pub record GoodScore (s : Score) : Type 0 where
  pub low : 1 ≤ s.division
  pub high : s.division ≤ 32767
  pub marks : GoodMarks s.marks
  pub last : IsQuantity s.last

-- ---- 2. Its events

-- the ticks in front of a mark
abbrev pub ticks_of : Mark → ℕ
ticks_of (Channel ticks status first second) = ticks
ticks_of (Tempo ticks tempo) = ticks
ticks_of (Meta ticks kind bytes) = ticks
ticks_of (Exclusive ticks status bytes) = ticks

-- the tempo behind a mark
abbrev pub tempo_behind : ℕ → Mark → ℕ
tempo_behind tempo (Channel ticks status first second) = tempo
tempo_behind tempo (Tempo ticks next) = next
tempo_behind tempo (Meta ticks kind bytes) = tempo
tempo_behind tempo (Exclusive ticks status bytes) = tempo

-- the status that runs behind a mark: only a channel event leaves one
abbrev pub running_behind : Mark → ℕ
running_behind (Channel ticks status first second) = status
running_behind (Tempo ticks tempo) = 0
running_behind (Meta ticks kind bytes) = 0
running_behind (Exclusive ticks status bytes) = 0

-- a mark at which U is `sum`, in front of the events behind it
abbrev pub ringing : ℕ → ℕ → Mark → List Event → List Event
ringing division sum (Channel ticks status first second) es =
    record { frame = frame_of division sum; status = status; first = first; second = second } ∷ es
ringing division sum (Tempo ticks tempo) es = es
ringing division sum (Meta ticks kind bytes) es = es
ringing division sum (Exclusive ticks status bytes) es = es

-- the channel events of some marks, from a tempo and a sum U on
unfoldable pub rung_from : ℕ → ℕ → ℕ → List Mark → List Event
rung_from division tempo sum [] = []
rung_from division tempo sum (m ∷ ms) =
    ringing division (sum + ticks_of m * tempo) m (rung_from division (tempo_behind tempo m) (sum + ticks_of m * tempo) ms)

-- whether none of some marks, nor the end of track, is past an hour
unfoldable pub in_time_from : ℕ → ℕ → ℕ → List Mark → ℕ → Bool
in_time_from division tempo sum [] last = not (is_late division (sum + last * tempo))
in_time_from division tempo sum (m ∷ ms) last =
    not (is_late division (sum + ticks_of m * tempo)) && in_time_from division (tempo_behind tempo m) (sum + ticks_of m * tempo) ms last

-- the events of a score: the tempo is 500,000 at first
abbrev pub rung : Score → List Event
rung s = rung_from s.division 500000 0 s.marks

-- whether a score ends within the hour
abbrev pub in_time : Score → Bool
in_time s = in_time_from s.division 500000 0 s.marks s.last

-- ---- 3. Its bytes

-- a number in two bytes, the high one first
unfoldable pub two_bytes : ℕ → List ℕ
two_bytes n = n / 256 ∷ n % 256 ∷ []

-- .. in three, modulo 2^24
unfoldable pub three_bytes : ℕ → List ℕ
three_bytes n = n / 65536 % 256 ∷ n / 256 % 256 ∷ n % 256 ∷ []

-- .. in four
unfoldable pub four_bytes : ℕ → List ℕ
four_bytes n = n / 16777216 ∷ n / 65536 % 256 ∷ n / 256 % 256 ∷ n % 256 ∷ []

-- a variable-length quantity in as few bytes as will do: seven bits in each, the high ones first; all but the last have 128 added
unfoldable pub quantity_bytes : ℕ → List ℕ
quantity_bytes n =
    cond (ltb n 128) (n ∷ [])
    (cond (ltb n 16384) ((128 + n / 128) ∷ n % 128 ∷ [])
    (cond (ltb n 2097152) ((128 + n / 16384) ∷ (128 + n / 128 % 128) ∷ n % 128 ∷ [])
    ((128 + n / 2097152) ∷ (128 + n / 16384 % 128) ∷ (128 + n / 128 % 128) ∷ n % 128 ∷ [])))

-- the status byte, which may be left out where it runs
unfoldable pub status_bytes : Bool → ℕ → ℕ → List ℕ
status_bytes omit running status = cond (omit && eqb status running) [] (status ∷ [])

-- the data bytes, one or two
unfoldable pub data_bytes : ℕ → ℕ → ℕ → List ℕ
data_bytes status first second = cond (has_one status) (first ∷ []) (first ∷ second ∷ [])

-- an event without its delta time. A tempo is FF, 51, three bytes
unfoldable pub event_bytes : Bool → ℕ → Mark → List ℕ
event_bytes omit running (Channel ticks status first second) = status_bytes omit running status ++ data_bytes status first second
event_bytes omit running (Tempo ticks tempo) = 255 ∷ 81 ∷ 3 ∷ three_bytes tempo
event_bytes omit running (Meta ticks kind bytes) = 255 ∷ kind ∷ (quantity_bytes (length bytes) ++ bytes)
event_bytes omit running (Exclusive ticks status bytes) = status ∷ (quantity_bytes (length bytes) ++ bytes)

-- the track from mark k on: `omits` says of each mark by its number whether its status is left out where it may be. At its end the end of track: FF, 2F, no bytes
unfoldable pub track_bytes : (ℕ → Bool) → ℕ → ℕ → List Mark → ℕ → List ℕ
track_bytes omits k running [] last = quantity_bytes last ++ (255 ∷ 47 ∷ 0 ∷ [])
track_bytes omits k running (m ∷ ms) last =
    quantity_bytes (ticks_of m) ++ (event_bytes (omits k) running m ++ track_bytes omits (suc k) (running_behind m) ms last)

-- the whole track
abbrev pub track_of : (ℕ → Bool) → Score → List ℕ
track_of omits s = track_bytes omits 0 0 s.marks s.last

-- a file: MThd of six bytes (format 0, one track, the division), and MTrk
unfoldable pub file_bytes : (ℕ → Bool) → Score → List ℕ
file_bytes omits s =
    77 ∷ 84 ∷ 104 ∷ 100 ∷ 0 ∷ 0 ∷ 0 ∷ 6 ∷ 0 ∷ 0 ∷ 0 ∷ 1 ∷ (two_bytes s.division ++ (77 ∷ 84 ∷ 114 ∷ 107 ∷ (four_bytes (length (track_of omits s)) ++ track_of omits s)))

-- ---- 4. What is promised

-- a file is a list of bytes
abbrev pub WrittenInBytes : Type 0
WrittenInBytes = (omits : ℕ → Bool) (s : Score) → GoodScore s → length (file_bytes omits s) ≤ 65536 → AllBytes (file_bytes omits s)

-- a score that ends within the hour, written in any of these ways: the file's events are the score's
abbrev pub WrittenIsRung : Type 0
WrittenIsRung =
    (omits : ℕ → Bool) (s : Score) → GoodScore s → length (file_bytes omits s) ≤ 65536 → in_time s ≡ true → events_of (file_bytes omits s) ≡ Events (rung s)

-- one that does not is refused, with 11
abbrev pub WrittenTooLate : Type 0
WrittenTooLate =
    (omits : ℕ → Bool) (s : Score) → GoodScore s → length (file_bytes omits s) ≤ 65536 → in_time s ≡ false → (test_of (file_bytes omits s)).number ≡ 11

-- running status is a matter of spelling: of two files of one score, where one gives events the other gives the same, and where one is refused the other is refused with
-- the same number
abbrev pub RunningIsSpelling : Type 0
RunningIsSpelling =
    (one other : ℕ → Bool) (s : Score) → GoodScore s → length (file_bytes one s) ≤ 65536 → length (file_bytes other s) ≤ 65536
    → ((es : List Event) → events_of (file_bytes one s) ≡ Events es → events_of (file_bytes other s) ≡ Events es)
    × ((test_of (file_bytes one s)).number ≡ (test_of (file_bytes other s)).number)

-- and a reader hands out the same, next by next
abbrev pub RunningReadsTheSame : Type 0
RunningReadsTheSame =
    (one other : ℕ → Bool) (s : Score) → GoodScore s → length (file_bytes one s) ≤ 65536 → length (file_bytes other s) ≤ 65536
    → (k : ℕ) → offered (file_bytes one s) k ≡ offered (file_bytes other s) k
