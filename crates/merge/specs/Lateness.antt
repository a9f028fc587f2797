-- Songs of several tracks: U over the one sequence, the frames of its channel events, and what is past an hour.
use Rattle.std.specs.Prelude.{cond, List, [], ◌∷◌, ℕ, ◌+◌, ◌*◌, ◌-◌, min, Option, Some, None}
use Rattle.smf.specs.declared.Event.{Event}
use Rattle.smf.specs.declared.Item.{Item}
use Rattle.smf.specs.declared.Item.TheVariants.{Bad, End, Passed, Tempo, Channel}
use Rattle.smf.specs.Ticks.{is_late, frame_of}
use Rattle.merge.specs.declared.Entry.{Entry}

-- the tempo behind an event, whatever its track
abbrev pub tempo_after : ℕ → Item → ℕ
tempo_after tempo Bad = tempo
tempo_after tempo End = tempo
tempo_after tempo (Passed behind) = tempo
tempo_after tempo (Tempo next behind) = next
tempo_after tempo (Channel status first second behind) = tempo

-- U at an event, behind a tick with its tempo and its U
abbrev pub sum_at : ℕ → ℕ → ℕ → Entry → ℕ
sum_at tick tempo sum e = sum + (e.tick - tick) * tempo

-- the smaller of two places
abbrev pub nearer : ℕ → Option ℕ → Option ℕ
nearer place None = Some place
nearer place (Some other) = Some (min place other)

-- the smallest place of an event past an hour
unfoldable pub late_from : ℕ → ℕ → ℕ → ℕ → List Entry → Option ℕ
late_from division tick tempo sum [] = None
late_from division tick tempo sum (e ∷ es) =
    let behind = late_from division e.tick (tempo_after tempo e.item) (sum_at tick tempo sum e) es in
    cond (is_late division (sum_at tick tempo sum e)) (nearer e.place behind) behind

-- .. of a whole sequence: the tempo is 500,000 at first
abbrev pub late_of : ℕ → List Entry → Option ℕ
late_of division es = late_from division 0 500000 0 es

-- a channel event at a frame, in front of others
abbrev pub sounding : ℕ → Item → List Event → List Event
sounding frame Bad es = es
sounding frame End es = es
sounding frame (Passed behind) es = es
sounding frame (Tempo tempo behind) es = es
sounding frame (Channel status first second behind) es = record { frame = frame; status = status; first = first; second = second } ∷ es

-- the channel events of a sequence, each with its frame
unfoldable pub struck_from : ℕ → ℕ → ℕ → ℕ → List Entry → List Event
struck_from division tick tempo sum [] = []
struck_from division tick tempo sum (e ∷ es) =
    sounding (frame_of division (sum_at tick tempo sum e)) e.item
    (struck_from division e.tick (tempo_after tempo e.item) (sum_at tick tempo sum e) es)

-- .. of a whole sequence
abbrev pub struck_of : ℕ → List Entry → List Event
struck_of division es = struck_from division 0 500000 0 es
