-- Songs of several tracks: all tracks of a file, up to its first fault by 9.
use Rattle.std.specs.Prelude.{cond, Bool, true, false, List, [], ◌∷◌, ◌++◌, ℕ, zero, suc, ◌+◌, length, Option, Some, None}
use Rattle.smf.specs.declared.Header.{Header}
use Rattle.smf.specs.declared.Header.TheVariants.{Refused, Track}
use Rattle.smf.specs.Head.{track_from}
use Rattle.smf.specs.Songs.{turns}
use Rattle.merge.specs.declared.Entry.{Entry}
use Rattle.merge.specs.Entries.{settled_at, entries_from, flaw_from}

-- the first event of a track: no status runs, at tick 0
abbrev pub first_entry : List ℕ → ℕ → ℕ → Entry
first_entry b begin end = settled_at b end 0 begin 0

-- a track's first fault
abbrev pub flaw_of : List ℕ → Entry → Option ℕ
flaw_of b e = flaw_from (turns b) b e

-- an event in front of those of further tracks, which are only looked at where its own track has no fault
abbrev pub lanes_behind : Option ℕ → Entry → List Entry → List Entry
lanes_behind None e es = e ∷ es
lanes_behind (Some place) e es = e ∷ []

-- a track's fault, or else the next one's
abbrev pub flaw_or : Option ℕ → Option ℕ → Option ℕ
flaw_or None s = s
flaw_or (Some place) s = Some place

-- the first event of each of the next n tracks, up to the first that has a fault; chunks of other names are stepped over
unfoldable pub lanes_from : ℕ → List ℕ → ℕ → List Entry
lanes_from zero b at = []
lanes_from (suc n) b at =
    elim (track_from (length b) b at) [ Refused number place ↦ [] | Track begin end ↦ lanes_behind (flaw_of b (first_entry b begin end)) (first_entry b begin end) (lanes_from n b end) ]

-- the first fault by 9 in the order of the file: of a chunk, or of a track's events
unfoldable pub flaw_in : ℕ → List ℕ → ℕ → Option ℕ
flaw_in zero b at = None
flaw_in (suc n) b at =
    elim (track_from (length b) b at) [ Refused number place ↦ Some place | Track begin end ↦ flaw_or (flaw_of b (first_entry b begin end)) (flaw_in n b end) ]

-- the events of some tracks, track behind track
unfoldable pub entries_of : List ℕ → List Entry → List Entry
entries_of b [] = []
entries_of b (e ∷ es) = entries_from (turns b) b e ++ entries_of b es
