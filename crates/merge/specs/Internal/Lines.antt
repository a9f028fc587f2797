-- The line that is written: its bytes event by event, as the writer puts them down.
use Rattle.std.specs.Prelude.{cond, true, List, [], ◌∷◌, ◌++◌, ℕ, zero, suc, ◌+◌, ◌-◌, min, eqb, length, take, drop}
use Rattle.smf.specs.declared.Item.{Item}
use Rattle.smf.specs.declared.Item.TheVariants.{Bad, End, Passed, Tempo, Channel}
use Rattle.smf.specs.Spelling.{Mark, two_bytes, four_bytes, quantity_bytes, event_bytes}
use Rattle.merge.specs.declared.Entry.{Entry}
use Rattle.merge.specs.declared.Line.{Line}
use Rattle.merge.specs.Bridges.{longest_delta, bridges_of, rest_of}

-- some bytes over those of an output from a place on
abbrev pub laid_over : List ℕ → ℕ → List ℕ → List ℕ
laid_over out at bytes = take at out ++ bytes ++ drop (at + length bytes) out

-- n bridges
unfoldable pub bridge_bytes : ℕ → ℕ → List ℕ
bridge_bytes tempo zero = []
bridge_bytes tempo (suc n) = bridge_bytes tempo n ++ (quantity_bytes longest_delta ++ event_bytes true 0 (Mark.Tempo longest_delta tempo))

-- the bytes for a gap: its bridges and its delta time
unfoldable pub gap_bytes : ℕ → ℕ → List ℕ
gap_bytes tempo gap = bridge_bytes tempo (bridges_of gap) ++ quantity_bytes (rest_of gap)

-- the status that runs behind a gap: a bridge ends it
unfoldable pub running_after : ℕ → ℕ → ℕ
running_after running gap = cond (eqb (bridges_of gap) 0) running 0

-- an event behind its gap
abbrev pub item_bytes : ℕ → Item → List ℕ
item_bytes running Bad = []
item_bytes running End = []
item_bytes running (Passed behind) = []
item_bytes running (Tempo tempo behind) = event_bytes true running (Mark.Tempo 0 tempo)
item_bytes running (Channel status first second behind) = event_bytes true running (Mark.Channel 0 status first second)

-- an event that is kept, with its gap
abbrev pub kept_bytes : Line → ℕ → Item → List ℕ
kept_bytes l gap Bad = []
kept_bytes l gap End = []
kept_bytes l gap (Passed behind) = []
kept_bytes l gap (Tempo tempo behind) = gap_bytes l.tempo gap ++ item_bytes (running_after l.running gap) (Tempo tempo behind)
kept_bytes l gap (Channel status first second behind) = gap_bytes l.tempo gap ++ item_bytes (running_after l.running gap) (Channel status first second behind)

-- the bytes of the next event
unfoldable pub entry_bytes : Line → Entry → List ℕ
entry_bytes l e = kept_bytes l (e.tick - l.tick) e.item

-- the line behind an event
abbrev pub line_behind : Line → ℕ → Item → Line
line_behind l tick Bad = l
line_behind l tick End = record { tick = l.tick; tempo = l.tempo; running = l.running; end = tick }
line_behind l tick (Passed behind) = l
line_behind l tick (Tempo tempo behind) = record { tick = tick; tempo = tempo; running = 0; end = l.end }
line_behind l tick (Channel status first second behind) = record { tick = tick; tempo = l.tempo; running = status; end = l.end }

-- .. behind an entry
abbrev pub line_after : Line → Entry → Line
line_after l e = line_behind l e.tick e.item

-- the end of track
unfoldable pub closing_bytes : Line → List ℕ
closing_bytes l = gap_bytes l.tempo (l.end - l.tick) ++ (255 ∷ 47 ∷ 0 ∷ [])

-- the line from an event on
unfoldable pub line_bytes : Line → List Entry → List ℕ
line_bytes l [] = closing_bytes l
line_bytes l (e ∷ es) = entry_bytes l e ++ line_bytes (line_after l e) es

-- where a line begins
abbrev pub line_start : Line
line_start = record { tick = 0; tempo = 500000; running = 0; end = 0 }

-- the head of a file of one track, and that track's name and length
abbrev pub head_bytes : ℕ → ℕ → List ℕ
head_bytes division size =
    77 ∷ 84 ∷ 104 ∷ 100 ∷ 0 ∷ 0 ∷ 0 ∷ 6 ∷ 0 ∷ 0 ∷ 0 ∷ 1 ∷ (two_bytes division ++ (77 ∷ 84 ∷ 114 ∷ 107 ∷ four_bytes size))

-- a count of bytes, held where no room is left
abbrev pub held_count : ℕ → ℕ
held_count n = min n 4294967318
