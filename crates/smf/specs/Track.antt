-- Standard MIDI Files: the track from a cursor on, one delta time and event after the other.
use Rattle.std.specs.Prelude.{cond, Bool, true, false, List, [], ◌∷◌, ℕ, zero, suc, min, length, Option, Some, None}
use Rattle.smf.specs.declared.Cursor.{Cursor}
use Rattle.smf.specs.declared.Event.{Event}
use Rattle.smf.specs.declared.Handed.{Handed}
use Rattle.smf.specs.declared.Item.{Item}
use Rattle.smf.specs.declared.Message.{Message}
use Rattle.smf.specs.declared.Met.{Met}
use Rattle.smf.specs.declared.Met.TheVariants.{Fault, End, Passed, Given}
use Rattle.smf.specs.Quantities.{quantity_at}
use Rattle.smf.specs.Items.{item_at}
use Rattle.smf.specs.Ticks.{sum_after, is_late, frame_of}

-- where the track ends: the file that is lent may be shorter than the one that was opened
abbrev pub edge_of : List ℕ → Cursor → ℕ
edge_of b c = min c.end (length b)

-- the cursor behind an event at which U is `sum`, with a running status and a tempo
abbrev pub carried : Cursor → ℕ → ℕ → ℕ → ℕ → Cursor
carried c sum behind running tempo =
    record { at = behind; end = c.end; running = running; division = c.division; tempo = tempo; sum = sum }

-- a channel event: a message in front of a cursor, at the frame of the cursor's U
abbrev pub event_of : Message → Cursor → Event
event_of m further = record { frame = frame_of further.division further.sum; status = m.status; first = m.first; second = m.second }

-- whether an event is not well formed
abbrev pub is_bad : Item → Bool
is_bad Item.Bad = true
is_bad Item.End = false
is_bad (Item.Passed behind) = false
is_bad (Item.Tempo tempo behind) = false
is_bad (Item.Channel status first second behind) = false

-- what an event does at which U is `sum`: meta and system exclusive events end running status, a tempo counts from behind its event on
unfoldable pub acted : Item → Cursor → ℕ → ℕ → Met
acted Item.Bad c sum place = Fault 9 place
acted Item.End c sum place = End
acted (Item.Passed behind) c sum place = Passed (carried c sum behind 0 c.tempo)
acted (Item.Tempo tempo behind) c sum place = Passed (carried c sum behind 0 tempo)
acted (Item.Channel status first second behind) c sum place =
    Given (record { status = status; first = first; second = second }) (carried c sum behind status c.tempo)

-- the same with its refusals, of which 9 goes before 11
unfoldable pub obeyed : Item → Cursor → ℕ → ℕ → Met
obeyed item c sum place = cond (is_bad item) (Fault 9 place) (cond (is_late c.division sum) (Fault 11 place) (acted item c sum place))

-- the delta time and the event at a cursor
unfoldable pub meet_at : List ℕ → Cursor → Met
meet_at b c =
    elim (quantity_at b (edge_of b c) c.at) [
      | None ↦ Fault 9 c.at
      | Some q ↦ obeyed (item_at b (edge_of b c) c.running q.behind) c (sum_after c q.value) q.behind
    ]

-- a song: its channel events in the file's order, or the first fault with its number and place
pub data Song : Type 0 where
  Refused : (number place : ℕ) → Song
  Events : List Event → Song

-- a song with an event in front
abbrev pub behind_event : Event → Song → Song
behind_event e (Refused number place) = Refused number place
behind_event e (Events es) = Events (e ∷ es)

-- the song from a cursor on, over at most n events
unfoldable pub song_from : ℕ → List ℕ → Cursor → Song
song_from zero b c = Refused 9 c.at
song_from (suc n) b c =
    elim (meet_at b c) [
      | Fault number place ↦ Refused number place
      | End ↦ Events []
      | Passed further ↦ song_from n b further
      | Given message further ↦ behind_event (event_of message further) (song_from n b further)
    ]

-- a cursor from which no event comes
abbrev pub over : Cursor
over = record { at = 0; end = 0; running = 0; division = 0; tempo = 0; sum = 0 }

-- no event is left
abbrev pub nothing : Handed
nothing = record { event = None; cursor = over }

-- the first channel event from a cursor on, over at most n events, and the cursor behind it
unfoldable pub next_from : ℕ → List ℕ → Cursor → Handed
next_from zero b c = nothing
next_from (suc n) b c =
    elim (meet_at b c) [
      | Fault number place ↦ nothing
      | End ↦ nothing
      | Passed further ↦ next_from n b further
      | Given message further ↦ record { event = Some (event_of message further); cursor = further }
    ]
