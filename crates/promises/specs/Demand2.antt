-- Demand 2: every number is right. The definitions are 01's rules; here stands what a doubter asks of them (and in `Pedal.antt`,
-- `Controls.antt`, `Night.antt`, `Age.antt`, `Cuts.antt` and `Panel.antt`).
use Rattle.std.specs.Prelude.{ℕ, ◌≤◌, ◌<◌, ◌+◌, ◌*◌, true, false, cond, Bool, ◌≡◌, List, [], ◌∷◌, ℤ, pos, negsuc, length, get_or, drop, Float}
use Rattle.std.specs.Int.Count.{ones}
use Rattle.arith.specs.Lists.{count_if}
use Rattle.voice.specs.Release.{release}
use Rattle.state.specs.declared.Engine.{Engine}
use Rattle.state.specs.Slots.{slot_at, slots_of, of_channel, with_voice}
use Rattle.events.specs.Keys.{held_key, pedal_down, mark}
use Rattle.promises.specs.Calls.{NoteOff, does, next, voice_in, NoteOn, Call, run, Render, among, begun, channel_of, starts_in, frames_of, written}
use Rattle.state.specs.Quiet.{fresh}
use Rattle.voice.specs.Stages.{released}
use Rattle.promises.specs.Age.{older}
use Rattle.arith.specs.Words.{bit}
use Rattle.voice.specs.declared.Voice.{Voice}
use Rattle.state.specs.Seats.{seat}
use Rattle.events.specs.Starting.{Started, start, cleared, rival}
use Rattle.voice.specs.Changes.{blank, sounds, free}
use Rattle.voice.specs.declared.Slot.{Slot}
use Rattle.state.specs.Channels.{channel_at}
use Rattle.arith.specs.Holds.{held_to}
use Rattle.arith.specs.Floats.{Over}
use Rattle.arith.specs.Within.{Within}
use Rattle.engine.specs.Rendering.{distance, left_sum, right_sum}

-- ---- 1. A note-off reaches all held voices of its channel and key

-- after a note-off that is done: each held voice of channel and key keeps its slot, and is released there, or marked while the
-- pedal is down; none is held any more; every other slot is as it was; the answer counts them
pub record Reached (channel key : ℕ) (e : Engine) : Type 0 where
  pub all : (i : ℕ) → held_key channel key (slot_at e i) ≡ true
      → slot_at (next (NoteOff channel key) e) i
      ≡ with_voice (slot_at e i) (cond (pedal_down e channel) (mark (voice_in i e)) (release (voice_in i e)))
  pub none : (i : ℕ) → held_key channel key (slot_at (next (NoteOff channel key) e) i) ≡ false
  pub others : (i : ℕ) → held_key channel key (slot_at e i) ≡ false → slot_at (next (NoteOff channel key) e) i ≡ slot_at e i
  pub counted : (does (NoteOff channel key) e).count ≡ count_if (held_key channel key) (slots_of e)

-- that is so in every state, for every channel and key
abbrev pub NoteOffReachesAll : Type 0
NoteOffReachesAll = (channel key : ℕ) (e : Engine) → channel ≤ 15 → key ≤ 127 → Reached channel key e

-- a note-on of velocity 0 is that note-off, whatever bank it is lent
abbrev pub VelocityZeroIsNoteOff : Type 0
VelocityZeroIsNoteOff =
    (b : List ℕ) (ram rom : List ℤ) (channel key : ℕ) (e : Engine) → channel ≤ 15 → key ≤ 127
    → does (NoteOn b ram rom channel key 0) e ≡ does (NoteOff channel key) e

-- ---- 2. Voices started are those of the rule

-- slot i is taken sooner than slot j: released voices first, then lower struck velocity, then older
pub data Sooner (e : Engine) (i j : ℕ) : Type 0 where
  let-go : released (voice_in i e).stage ≡ true → released (voice_in j e).stage ≡ false → Sooner e i j
  softer : released (voice_in i e).stage ≡ released (voice_in j e).stage → (voice_in i e).velocity < (voice_in j e).velocity → Sooner e i j
  aged : released (voice_in i e).stage ≡ released (voice_in j e).stage → (voice_in i e).velocity ≡ (voice_in j e).velocity
      → older e.order i j ≡ true → Sooner e i j

-- the slot for a layer, where `mine` is the word of the slots that its note-on has started before
pub record RightSeat (e : Engine) (mine i : ℕ) : Type 0 where
  pub slot : i < 32
  -- never one of the same note-on
  pub other : bit mine i ≡ 0
  -- while a slot is free: the lowest free one
  pub lowest : (j : ℕ) → j < 32 → (slot_at e j).sounding ≡ false → ((slot_at e i).sounding ≡ false) × (i ≤ j)
  -- when none is left: the one that is taken soonest
  pub soonest : (slot_at e i).sounding ≡ true → (j : ℕ) → j < 32 → bit mine j ≡ 0 → (j ≡ i → ⊥) → Sooner e i j

-- each layer in its turn
abbrev pub RightSeats : List Voice → Started → Type 0
RightSeats [] x = Unit {0}
RightSeats (v ∷ vs) x = RightSeat x.engine x.mine (seat x.engine x.mine) × RightSeats vs (start v x)

-- no slot twice
unfoldable pub distinct : List ℕ → Bool
distinct [] = true
distinct (x ∷ xs) = cond (among x xs) false (distinct xs)

-- a note-on x that is done, and no note-off: the rivals (same channel, same nonzero class) are freed first; the layers then
-- take their slots by the rule, as many slots as layers, no slot twice, each layer sounds in its own, and no other slot changes
pub record Struck (x : Call) (e : Engine) : Type 0 where
  pub counted : length (starts_in x e) ≡ length (begun x e)
  pub seated : RightSeats (begun x e) (record { engine = cleared (channel_of x) (begun x e) e; mine = 0 })
  pub apart : distinct (starts_in x e) ≡ true
  pub each : (j : ℕ) → j < length (begun x e) → slot_at (next x e) (get_or (starts_in x e) j 0) ≡ sounds (get_or (begun x e) j blank)
  pub others : (i : ℕ) → among i (starts_in x e) ≡ false
      → slot_at (next x e) i ≡ cond (rival (channel_of x) (begun x e) (slot_at e i)) (free (voice_in i e)) (slot_at e i)

-- after any run, a note-on that is done
abbrev pub LayersByTheRule : Type 0
LayersByTheRule =
    (xs : List Call) (b : List ℕ) (ram rom : List ℤ) (c k v : ℕ) → 0 < v
    → (does (NoteOn b ram rom c k v) (run xs fresh)).status ≡ 0
    → ((does (NoteOn b ram rom c k v) (run xs fresh)).count ≡ length (begun (NoteOn b ram rom c k v) (run xs fresh)))
    × Struck (NoteOn b ram rom c k v) (run xs fresh)

-- ---- 3. The word's ones are the voices

-- after any run, as many ones as slots that sound
abbrev pub OnesAreVoices : Type 0
OnesAreVoices = (xs : List Call) → ones (run xs fresh).sounding ≡ count_if (λ (s : Slot). s.sounding) (slots_of (run xs fresh))

-- ---- 4. No call touches another channel

-- its voices stand, but where a voice is started in their slot: that is taking
abbrev pub OtherVoicesStand : Type 0
OtherVoicesStand =
    (x : Call) (e : Engine) (i : ℕ) → frames_of x e ≡ 0 → of_channel (channel_of x) (slot_at e i) ≡ false
    → among i (starts_in x e) ≡ false → slot_at (next x e) i ≡ slot_at e i

-- and so do its program, bend and controls
abbrev pub OtherChannelsStand : Type 0
OtherChannelsStand = (x : Call) (e : Engine) (c : ℕ) → (c ≡ channel_of x → ⊥) → channel_at (next x e) c ≡ channel_at e c

-- ---- 5. The output

-- a sum of voices, held to -2^23..2^23
abbrev pub held_sum : ℤ → ℤ
held_sum z = held_to (negsuc 8388607) (pos 8388608) z

-- x is the held sum over 2^23, exactly: within -1..1
pub record Fraction (x : Float) (sum : ℤ) : Type 0 where
  pub exact : Over x (held_sum sum) 8388608
  pub within : Within (held_sum sum) 8388608

-- a done render of n frames: as long as before; number 2j is left of frame j and 2j + 1 right, each exactly the sum of voices,
-- held, over 2^23; behind the first 2n every number is as it was
pub record Rendered (to : ℕ) (ram rom : List ℤ) (out : List Float) (e : Engine) (none : Float) : Type 0 where
  pub long : length (written (Render to ram rom out) e) ≡ length out
  pub left : (j : ℕ) → j < distance e to → Fraction (get_or (written (Render to ram rom out) e) (2 * j) none) (left_sum ram rom e j)
  pub right : (j : ℕ) → j < distance e to → Fraction (get_or (written (Render to ram rom out) e) (2 * j + 1) none) (right_sum ram rom e j)
  pub behind : drop (2 * distance e to) (written (Render to ram rom out) e) ≡ drop (2 * distance e to) out

-- that is so of every render that is done (`none` is what a place past the output reads as)
abbrev pub OutputIsExact : Type 0
OutputIsExact =
    (to : ℕ) (ram rom : List ℤ) (out : List Float) (e : Engine) (none : Float) → (does (Render to ram rom out) e).status ≡ 0
    → Rendered to ram rom out e none
