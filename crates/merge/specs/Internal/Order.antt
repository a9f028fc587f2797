-- What is told of each event on the way through the sequence.
use Rattle.std.specs.Prelude.{cond, List, [], ◌∷◌, ℕ, ◌+◌, min, ltb, length, None}
use Rattle.merge.specs.declared.Entry.{Entry}
use Rattle.merge.specs.declared.Hour.{Hour}
use Rattle.merge.specs.declared.Tally.{Tally}
use Rattle.merge.specs.Lateness.{tempo_after, sum_at, nearer}
use Rattle.merge.specs.Internal.Lines.{entry_bytes, line_after, line_start, held_count}

-- the time at an event, with U held at one past the limit
unfoldable pub hour_after : Hour → Entry → ℕ → Hour
hour_after h e limit =
    let sum = min (sum_at h.tick h.tempo h.sum e) (limit + 1) in
    record { tick = e.tick; tempo = tempo_after h.tempo e.item; sum = sum; late = cond (ltb limit sum) (nearer e.place h.late) h.late }

-- the time at the start
abbrev pub hour_start : Hour
hour_start = record { tick = 0; tempo = 500000; sum = 0; late = None }

-- what a song needs, behind an event
unfoldable pub told_of : Tally → Entry → ℕ → Tally
told_of t e limit =
    record { hour = hour_after t.hour e limit; line = line_after t.line e; size = held_count (t.size + length (entry_bytes t.line e)) }

-- .. in front of the first: the head and the track's name and length take 22 bytes
abbrev pub tally_start : Tally
tally_start = record { hour = hour_start; line = line_start; size = 22 }

-- .. behind all of a sequence
unfoldable pub tally_of : Tally → List Entry → ℕ → Tally
tally_of t [] limit = t
tally_of t (e ∷ es) limit = tally_of (told_of t e limit) es limit
