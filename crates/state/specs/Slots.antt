-- 01, "Slots, keys and the clock": the state's 32 slots, and states with one part replaced.
use Rattle.std.specs.Prelude.{ℕ, ◌/◌, ◌%◌, ◌+◌, ◌*◌, eqb, List, [], ◌∷◌, map, cond, Bool, ◌&&◌, get_or}
use Rattle.voice.specs.declared.Slot.{Slot}
use Rattle.voice.specs.declared.Voice.{Voice}
use Rattle.state.specs.declared.Engine.{Engine}
use Rattle.voice.specs.Changes.{free, blank}
use Rattle.state.specs.Quiet.{changed}

-- the records, each with its bit of the word (the lowest bit is slot 0)
unfoldable pub paired : ℕ → List Voice → List Slot
paired word [] = []
paired word (v ∷ vs) = record { sounding = eqb (word % 2) 1; voice = v } ∷ paired (word / 2) vs

-- the word of a list of slots
unfoldable pub word_of : List Slot → ℕ
word_of [] = 0
word_of (s ∷ ss) = cond s.sounding 1 0 + 2 * word_of ss

-- the records of a list of slots
abbrev pub records_of : List Slot → List Voice
records_of ss = map (λ (s : Slot). s.voice) ss

-- the 32 slots
abbrev pub slots_of : Engine → List Slot
slots_of e = paired e.sounding e.voices

-- slot i; free past the last
abbrev pub slot_at : Engine → ℕ → Slot
slot_at e i = get_or (slots_of e) i (free blank)

-- the state with other slots
abbrev pub with_slots : Engine → List Slot → Engine
with_slots e ss = changed e (records_of ss) e.channels (word_of ss) e.order e.clock

-- the state with another order of age
abbrev pub with_order : Engine → List ℕ → Engine
with_order e o = changed e e.voices e.channels e.sounding o e.clock

-- the state with another clock
abbrev pub with_clock : Engine → ℕ → Engine
with_clock e t = changed e e.voices e.channels e.sounding e.order t

-- the slots that a test picks are freed
unfoldable pub cut : (Slot → Bool) → Slot → Slot
cut picks s = cond (picks s) (free s.voice) s

-- it sounds, and is of the channel
unfoldable pub of_channel : ℕ → Slot → Bool
of_channel channel s = s.sounding && eqb s.voice.channel channel

-- a slot with another voice
abbrev pub with_voice : Slot → Voice → Slot
with_voice s v = record { sounding = s.sounding; voice = v }
