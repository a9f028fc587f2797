-- Demand 2: the night ends in silence. A key that is left is held no more, a released voice is free in time, and then no slot sounds.
use Rattle.std.specs.Prelude.{ℕ, ◌≤◌, ◌+◌, max, true, false, cond, Bool, ◌≡◌, List, [], ◌∷◌, eqb}
use Rattle.voice.specs.declared.Slot.{Slot}
use Rattle.voice.specs.Stages.{released}
use Rattle.state.specs.declared.Engine.{Engine}
use Rattle.state.specs.Slots.{slot_at, slots_of}
use Rattle.state.specs.Quiet.{fresh}
use Rattle.events.specs.Keys.{held_key, pedal_down}
use Rattle.promises.specs.Pedal.{MarksUnderPedal}
use Rattle.promises.specs.Calls.{NoteOff, voice_in, NoteOn, Control, Call, run, Program, Bend, Render, Ask, among, history, frames_run}

-- ---- 1. Keys that are struck and left

-- a call that strikes a key: a note-on of another velocity than 0
abbrev pub strikes : ℕ → ℕ → Call → Bool
strikes c k (NoteOn b ram rom channel key velocity) = cond (eqb velocity 0) false (cond (eqb channel c) (eqb key k) false)
strikes c k (NoteOff channel key) = false
strikes c k (Control channel n value) = false
strikes c k (Program channel p) = false
strikes c k (Bend channel b) = false
strikes c k (Render to ram rom out) = false
strikes c k (Ask i) = false

-- a call that leaves a key: its note-off, or a note-on of velocity 0
abbrev pub leaves : ℕ → ℕ → Call → Bool
leaves c k (NoteOn b ram rom channel key velocity) = cond (eqb velocity 0) (cond (eqb channel c) (eqb key k) false) false
leaves c k (NoteOff channel key) = cond (eqb channel c) (eqb key k) false
leaves c k (Control channel n value) = false
leaves c k (Program channel p) = false
leaves c k (Bend channel b) = false
leaves c k (Render to ram rom out) = false
leaves c k (Ask i) = false

-- after some calls the key still stands struck: no call that leaves it came behind the last that strikes it; b is so before
unfoldable pub struck_after : ℕ → ℕ → Bool → List Call → Bool
struck_after c k b [] = b
struck_after c k b (x ∷ xs) = struck_after c k (cond (strikes c k x) true (cond (leaves c k x) false b)) xs

-- ---- 2. One key, from any state

-- no voice of the key is held: each of its voices that sounds is released, or marked by the pedal
abbrev pub NotHeld : ℕ → ℕ → Engine → Type 0
NotHeld c k e = (i : ℕ) → held_key c k (slot_at e i) ≡ false

-- after calls whose last strike of the key is followed by one that leaves it, no voice of it is held. Where b is true the state
-- before may hold anything, and the calls have to leave the key; where b is false it holds no voice of the key
abbrev pub KeyIsLeft : Type 0
KeyIsLeft =
    (c k : ℕ) (b : Bool) (xs : List Call) (e : Engine) → c ≤ 15 → k ≤ 127 → (b ≡ false → NotHeld c k e)
    → struck_after c k b xs ≡ false → NotHeld c k (run xs e)

-- and if then the pedal is up, every voice of the key that still sounds is released
abbrev pub KeyIsReleased : Type 0
KeyIsReleased =
    (c k : ℕ) (b : Bool) (xs : List Call) (e : Engine) → c ≤ 15 → k ≤ 127 → (b ≡ false → NotHeld c k e)
    → struck_after c k b xs ≡ false → MarksUnderPedal e → pedal_down (run xs e) c ≡ false
    → (i : ℕ) → (slot_at (run xs e) i).sounding ≡ true → (voice_in i (run xs e)).channel ≡ c → (voice_in i (run xs e)).key ≡ k
    → released (voice_in i (run xs e)).stage ≡ true

-- ---- 3. The October night

-- a piece: any calls that leave each key behind the last time that they strike it
abbrev pub Piece : List Call → Type 0
Piece xs = (c k : ℕ) → struck_after c k false xs ≡ false

-- two lists of calls run into each other, each in its own order
pub data Into : List Call → List Call → List Call → Type 0 where
  ends : Into [] [] []
  left : {x : Call} {xs ys zs : List Call} → Into xs ys zs → Into (x ∷ xs) ys (x ∷ zs)
  right : {y : Call} {xs ys zs : List Call} → Into xs ys zs → Into xs (y ∷ ys) (y ∷ zs)

-- pieces, as many as one likes and the same one as often as one likes, that overlap in any way
pub data Overlap : List Call → Type 0 where
  quiet : Overlap []
  more : {xs ys zs : List Call} → Piece xs → Overlap ys → Into xs ys zs → Overlap zs

-- no pedal is down
abbrev pub NoPedal : Engine → Type 0
NoPedal e = (c : ℕ) → pedal_down e c ≡ false

-- every voice that sounds is released
abbrev pub AllReleased : Engine → Type 0
AllReleased e = (i : ℕ) → (slot_at e i).sounding ≡ true → released (voice_in i e).stage ≡ true

-- after such a night, once no pedal is down, every voice that still sounds is released
abbrev pub OctoberNight : Type 0
OctoberNight = (night : List Call) → Overlap night → NoPedal (run night fresh) → AllReleased (run night fresh)

-- ---- 4. A released voice is free after at most N + 1 rendered frames, N its release's frames

-- no call starts a voice in slot i
abbrev pub NeverStarts : ℕ → List Call → Engine → Type 0
NeverStarts i xs e = among i (history xs e) ≡ false

-- however they are cut, and whatever else is called, unless another voice is started in its slot
abbrev pub FreeInTime : Type 0
FreeInTime =
    (i : ℕ) (xs : List Call) (e : Engine) → released (voice_in i e).stage ≡ true → NeverStarts i xs e
    → (voice_in i e).release + 1 ≤ frames_run xs e → (slot_at (run xs e) i).sounding ≡ false

-- ---- 5. Silence

-- the longest release of the slots that sound, in frames; 0 where none sounds
unfoldable pub longest : List Slot → ℕ
longest [] = 0
longest (s ∷ ss) = max (cond s.sounding s.voice.release 0) (longest ss)

-- .. of a state
abbrev pub longest_release : Engine → ℕ
longest_release e = longest (slots_of e)

-- every voice is released, and no other is started: after the frames of the longest release and one more, the slot word is 0
abbrev pub SilentInTime : Type 0
SilentInTime =
    (before xs : List Call) → AllReleased (run before fresh) → history xs (run before fresh) ≡ []
    → longest_release (run before fresh) + 1 ≤ frames_run xs (run before fresh) → (run xs (run before fresh)).sounding ≡ 0

-- no release is longer than 4,480,280 frames (8,000 timecents, 101.6 seconds), whatever banks are lent
abbrev pub ReleasesEnd : Type 0
ReleasesEnd = (xs : List Call) → longest_release (run xs fresh) ≤ 4480280

-- no call strikes a key
abbrev pub NoStrike : List Call → Type 0
NoStrike [] = Unit {0}
NoStrike (x ∷ xs) = ((c k : ℕ) → strikes c k x ≡ false) × NoStrike xs

-- after a night, with no pedal down and no further strike: the frames of the longest release and one more, and no slot sounds
abbrev pub NightEnds : Type 0
NightEnds =
    (night morning : List Call) → Overlap night → NoPedal (run night fresh) → NoStrike morning
    → longest_release (run night fresh) + 1 ≤ frames_run morning (run night fresh) → (run morning (run night fresh)).sounding ≡ 0

-- 4,480,281 frames are always enough
abbrev pub NightEndsAlways : Type 0
NightEndsAlways =
    (night morning : List Call) → Overlap night → NoPedal (run night fresh) → NoStrike morning
    → 4480281 ≤ frames_run morning (run night fresh) → (run morning (run night fresh)).sounding ≡ 0
