-- Songs of several tracks: the events of one track, each with its tick and its place, and the track's first fault.
use Rattle.std.specs.Prelude.{cond, List, [], ◌∷◌, ℕ, zero, suc, ◌+◌, Some, None, Option}
use Rattle.smf.specs.declared.Item.{Item}
use Rattle.smf.specs.declared.Item.TheVariants.{Bad, End, Passed, Tempo, Channel}
use Rattle.smf.specs.Quantities.{quantity_at}
use Rattle.smf.specs.Items.{item_at}
use Rattle.smf.specs.Track.{is_bad}
use Rattle.merge.specs.declared.Entry.{Entry}

-- stands for no tick, above any that a file has
abbrev pub no_tick : ℕ
no_tick = 18446744073709551615

-- an event with its tick and its place, in a track that ends at `end`; what is not well formed has no tick
abbrev pub noted : Item → ℕ → ℕ → ℕ → Entry
noted item tick place end = record { tick = cond (is_bad item) no_tick tick; place = place; end = end; item = item }

-- the delta time at a place and the event behind it, where a status runs and a tick is reached. What is not well formed has its own place
unfoldable pub settled_at : List ℕ → ℕ → ℕ → ℕ → ℕ → Entry
settled_at b end running at tick =
    elim (quantity_at b end at) [ None ↦ noted Bad tick at end | Some q ↦ noted (item_at b end running q.behind) (tick + q.value) q.behind end ]

-- nothing comes behind an end of track, or behind a fault
abbrev pub gone : Entry → Entry
gone e = record { tick = no_tick; place = e.place; end = e.end; item = Bad }

-- what comes behind an event: meta and system exclusive events end running status
abbrev pub behind_item : List ℕ → Entry → Item → Entry
behind_item b e Bad = gone e
behind_item b e End = gone e
behind_item b e (Passed behind) = settled_at b e.end 0 behind e.tick
behind_item b e (Tempo tempo behind) = settled_at b e.end 0 behind e.tick
behind_item b e (Channel status first second behind) = settled_at b e.end status behind e.tick

-- the next event of a track
unfoldable pub advanced_of : List ℕ → Entry → Entry
advanced_of b e = behind_item b e e.item

-- the well-formed events of a track from one on, at most n
unfoldable pub entries_from : ℕ → List ℕ → Entry → List Entry
entries_from zero b e = []
entries_from (suc n) b e = cond (is_bad e.item) [] (e ∷ entries_from n b (advanced_of b e))

-- the fault of a track at an event, where those behind it have another
abbrev pub flaw_behind : Item → ℕ → Option ℕ → Option ℕ
flaw_behind Bad place more = Some place
flaw_behind End place more = None
flaw_behind (Passed behind) place more = more
flaw_behind (Tempo tempo behind) place more = more
flaw_behind (Channel status first second behind) place more = more

-- the track's first fault, within n events
unfoldable pub flaw_from : ℕ → List ℕ → Entry → Option ℕ
flaw_from zero b e = None
flaw_from (suc n) b e = flaw_behind e.item e.place (flaw_from n b (advanced_of b e))
