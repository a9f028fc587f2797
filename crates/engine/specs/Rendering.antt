-- 01, "A voice, frame by frame" (output), "Slots, keys and the clock" (clock), and the table: render.
use Rattle.std.specs.Prelude.{ℕ, zero, suc, ◌+◌, ◌-◌, ◌*◌, ◌%◌, Bool, cond, ◌&&◌, List, [], ◌∷◌, ◌++◌, map, length, drop, ℤ, ◌==◌, nat_le, nat_lt, Float}
use Rattle.state.specs.declared.Engine.{Engine}
use Rattle.voice.specs.declared.Voice.{Voice}
use Rattle.records.specs.Memory.{part_of}
use Rattle.state.specs.Reach.{memory, ends_past}
use Rattle.voice.specs.declared.Slot.{Slot}
use Rattle.arith.specs.Lists.{any_of, sum_of}
use Rattle.state.specs.Slots.{slots_of, with_slots, with_clock}
use Rattle.voice.specs.Frames.{after, left_in, right_in}
use Rattle.state.specs.Channels.{channel_at}
use Rattle.engine.specs.Mixer.{mixed}
use Rattle.state.specs.Answers.{Answered}
use Rattle.state.specs.Answers.{done, answer}

-- the distance to the asked clock value, modulo 2^32
unfoldable pub distance : Engine → ℕ → ℕ
distance e to = (to + 4294967296 - e.clock) % 4294967296

-- a voice's window: its part of its memory
unfoldable pub window : List ℤ → List ℤ → Voice → List ℤ
window ram rom v = part_of (memory ram rom v) v.start v.end

-- a slot sounds, and its window ends past its memory
abbrev pub lacks : List ℤ → List ℤ → Slot → Bool
lacks ram rom s = s.sounding && ends_past ram rom s.voice

-- one of the slots does
unfoldable pub lacking : List ℤ → List ℤ → List Slot → Bool
lacking ram rom ss = any_of (lacks ram rom) ss

-- the tests: 5, 6, 7, 8 (`room` is the output's length)
unfoldable pub render_number : ℕ → List ℤ → List ℤ → ℕ → Engine → ℕ
render_number to ram rom room e =
    cond (nat_le 2147483648 (distance e to)) 5
    (cond (nat_lt 4096 (distance e to)) 6
    (cond (nat_lt room (2 * distance e to)) 7
    (cond (lacking ram rom (slots_of e)) 8 0)))

module _ (ram rom : List ℤ) (e : Engine) where
  -- a slot after n frames, with its channel as it stands and its window
  abbrev pub slot_after : ℕ → Slot → Slot
  slot_after n s = after (channel_at e s.voice.channel) (window ram rom s.voice) n s

  -- what it gives left in frame k
  abbrev pub slot_left : ℕ → Slot → ℤ
  slot_left k s = left_in (channel_at e s.voice.channel) (window ram rom s.voice) k s

  -- what it gives right in frame k
  abbrev pub slot_right : ℕ → Slot → ℤ
  slot_right k s = right_in (channel_at e s.voice.channel) (window ram rom s.voice) k s

  -- the sum of voices in frame k, left
  abbrev pub left_sum : ℕ → ℤ
  left_sum k = sum_of (slot_left k) (slots_of e)

  -- the sum of voices in frame k, right
  abbrev pub right_sum : ℕ → ℤ
  right_sum k = sum_of (slot_right k) (slots_of e)

-- the output of the first n frames, left and right alternating
unfoldable pub output : List ℤ → List ℤ → Engine → ℕ → List Float
output ram rom e zero = []
output ram rom e (suc n) =
    output ram rom e n ++ (mixed (left_sum ram rom e n) ∷ mixed (right_sum ram rom e n) ∷ [])

-- the state after n frames
unfoldable pub played : List ℤ → List ℤ → ℕ → Engine → Engine
played ram rom n e = with_slots e (map (slot_after ram rom e n) (slots_of e))

-- render to a clock value: the answer
unfoldable pub render : ℕ → List ℤ → List ℤ → ℕ → Engine → Answered
render to ram rom room e =
    answer (render_number to ram rom room e) e (done 0 (with_clock (played ram rom (distance e to) e) to))

-- and all of the lent output: done, its first 2n numbers are written and no other; refused, none
unfoldable pub rendered : ℕ → List ℤ → List ℤ → List Float → Engine → List Float
rendered to ram rom out e =
    cond (render_number to ram rom (length out) e == 0)
    (output ram rom e (distance e to) ++ drop (2 * distance e to) out) out
