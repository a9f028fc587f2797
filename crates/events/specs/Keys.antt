-- 01, "Slots, keys and the clock": note-off, and which voices are held.
use Rattle.std.specs.Prelude.{ℕ, Bool, ◌&&◌, not, true, cond, eqb, leb, map}
use Rattle.voice.specs.declared.Slot.{Slot}
use Rattle.state.specs.Slots.{of_channel, with_voice, slots_of, with_slots}
use Rattle.voice.specs.Stages.{released}
use Rattle.state.specs.declared.Engine.{Engine}
use Rattle.state.specs.Channels.{channel_at}
use Rattle.voice.specs.declared.Voice.{Voice}
use Rattle.voice.specs.Changes.{with_moved}
use Rattle.voice.specs.Release.{release}
use Rattle.arith.specs.Lists.{count_if}
use Rattle.state.specs.Answers.{Answered}
use Rattle.state.specs.Answers.{done, answer, past_one}

-- a held voice of the channel: neither released nor marked
unfoldable pub held : ℕ → Slot → Bool
held channel s = of_channel channel s && not (released s.voice.stage) && not s.voice.marked

-- .. and of the struck key
unfoldable pub held_key : ℕ → ℕ → Slot → Bool
held_key channel key s = held channel s && eqb s.voice.key key

-- a voice of the channel that the pedal holds
unfoldable pub pedal_held : ℕ → Slot → Bool
pedal_held channel s = of_channel channel s && s.voice.marked

-- the pedal is down: control 64 is 64 or more
abbrev pub pedal_down : Engine → ℕ → Bool
pedal_down e channel = leb 64 (channel_at e channel).pedal

-- the voice marked pedal-held
abbrev pub mark : Voice → Voice
mark v = with_moved v v.stage v.place true

-- the slots that a test picks are let go: marked while the pedal is down, else released
unfoldable pub let_off : Bool → (Slot → Bool) → Slot → Slot
let_off down picks s = cond (picks s) (with_voice s (cond down (mark s.voice) (release s.voice))) s

-- a note-off for the slots that a test picks
unfoldable pub off : ℕ → (Slot → Bool) → Engine → Engine
off channel picks e = with_slots e (map (let_off (pedal_down e channel) picks) (slots_of e))

-- a note-off past its tests: each held voice of channel and key, and how many they were
unfoldable pub off_key : ℕ → ℕ → Engine → Answered
off_key channel key e = done (count_if (held_key channel key) (slots_of e)) (off channel (held_key channel key) e)

-- note-off
unfoldable pub note_off : ℕ → ℕ → Engine → Answered
note_off channel key e = answer (cond (past_one channel key) 2 0) e (off_key channel key e)
