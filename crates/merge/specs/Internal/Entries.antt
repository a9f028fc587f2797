-- What is so of an entry that a track has come to, and what comes behind it.
use Rattle.std.specs.Prelude.{Bool, true, false, cond, List, ◌≡◌, ℕ, ◌*◌, ◌<◌, ◌≤◌, length, Option, Some, None}
use Rattle.smf.specs.declared.Item.{Item}
use Rattle.smf.specs.declared.Item.TheVariants.{Bad, End, Passed, Tempo, Channel}
use Rattle.smf.specs.Track.{is_bad}
use Rattle.merge.specs.declared.Entry.{Entry}
use Rattle.merge.specs.Entries.{no_tick}

-- an event ends behind its place and in front of its track's end
abbrev pub EndsIn : ℕ → ℕ → Item → Type 0
EndsIn place end Bad = Unit {0}
EndsIn place end End = place < end
EndsIn place end (Passed behind) = (place < behind) × (behind ≤ end)
EndsIn place end (Tempo tempo behind) = (place < behind) × (behind ≤ end)
EndsIn place end (Channel status first second behind) = (place < behind) × (behind ≤ end)

-- an entry lies in a file
pub record Seated (b : List ℕ) (e : Entry) : Type 0 where
  pub held : e.end ≤ length b
  pub item_in : EndsIn e.place e.end e.item

-- an entry of a file that is not too long: each event takes a byte or more, so that its tick has a bound
pub record Settled (b : List ℕ) (e : Entry) : Type 0 where
  pub seated : Seated b e
  pub short : length b ≤ 16777216
  pub good : is_bad e.item ≡ false → e.tick ≤ e.place * 268435456
  pub bad : is_bad e.item ≡ true → e.tick ≡ no_tick

-- whether something comes behind an event
abbrev pub goes_on : Item → Bool
goes_on Bad = false
goes_on End = false
goes_on (Passed behind) = true
goes_on (Tempo tempo behind) = true
goes_on (Channel status first second behind) = true

-- the fault of a track that has come to its end
unfoldable pub flaw_at : Entry → Option ℕ
flaw_at e = cond (is_bad e.item) (Some e.place) None
