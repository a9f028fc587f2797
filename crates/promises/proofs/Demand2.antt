-- Demand 2, a note-off reaches all: by what letting off does to a slot that is picked and to one that is not.
use Prim.Native.Nat.{ℕ, ◌≤◌}
use mathlib.Core.Path.{◌≡◌, refl, ap, ◌∙◌}
use borrow.Author.Tests.{le-ltb}
use mathlib.Core.Bool.{false, true, Bool, cond, not, ◌&&◌, and-false}
use lib.Dec.{eqb}
use Rattle.state.specs.declared.Engine.{Engine}
use Rattle.events.specs.Keys.{off_key, note_off, held, held_key, mark, pedal_down, let_off, off}
use Rattle.state.specs.Slots.{of_channel, with_voice, slot_at}
use Rattle.voice.specs.declared.Voice.{Voice}
use Rattle.voice.specs.Changes.{free, blank}
use Rattle.voice.specs.declared.Stage.{Stage}
use Rattle.voice.specs.declared.Stage.TheVariants.{Delay, Attack, Hold, Decay, Sustain, Release}
use Rattle.voice.specs.Stages.{released}
use Rattle.voice.specs.Release.{let_go, release}
use Rattle.voice.specs.declared.Slot.{Slot}
use Rattle.state.proofs.SlotsLaws.{slot_map}
use Rattle.events.proofs.KeysLaws.{off-keeps}
use Rattle.state.specs.Answers.{Answered}
use Rattle.promises.proofs.EachSlot.{let_off-picked}
use Rattle.promises.specs.Demand2.{NoteOffReachesAll, VelocityZeroIsNoteOff}
use Rattle.events.specs.Striking.{note_on}

-- within its ranges it is done
pub off-done : (channel key : ℕ) (e : Engine) → channel ≤ 15 → key ≤ 127 → note_off channel key e ≡ off_key channel key e
unfolding note_off
off-done channel key e h k = simp (le-ltb 15 channel h, le-ltb 127 key k)

-- a free slot is not held
pub free-held : (channel key : ℕ) (v : Voice) → held_key channel key (free v) ≡ false
unfolding held_key held of_channel
free-held channel key v = refl

-- what is let go is released, or marked: it is held no more
pub let-go : (v : Voice) (s : Stage) → released (let_go v s) ≡ true
let-go v (Delay left) = refl
let-go v (Attack t) = refl
let-go v (Hold t) = refl
let-go v (Decay t) = refl
let-go v Sustain = refl
let-go v (Release a t) = refl

-- so no key holds it
pub gone : (channel key : ℕ) (s : Slot) (down : Bool) → held_key channel key (with_voice s (cond down (mark s.voice) (release s.voice))) ≡ false
unfolding held_key held of_channel release
gone channel key s true =
    ap (λ (b : Bool). b && eqb s.voice.key key) (and-false (s.sounding && eqb s.voice.channel channel && not (released s.voice.stage)))
gone channel key s false =
    ap (λ (b : Bool). s.sounding && eqb s.voice.channel channel && not b && true && eqb s.voice.key key) (let-go s.voice s.voice.stage)
    ∙ ap (λ (b : Bool). b && true && eqb s.voice.key key) (and-false (s.sounding && eqb s.voice.channel channel))

after-off : (channel key : ℕ) (e : Engine) (i : ℕ)
    → slot_at (off_key channel key e).engine i ≡ let_off (pedal_down e channel) (held_key channel key) (slot_at e i)
unfolding off_key off
after-off channel key e i =
    slot_map e e (let_off (pedal_down e channel) (held_key channel key)) i
    (off-keeps (pedal_down e channel) (held_key channel key) (free blank) (free-held channel key blank))

-- slot by slot
pub reaches : NoteOffReachesAll
unfolding off_key
reaches channel key e h k =
    let d = off-done channel key e h k in
    let at : (i : ℕ) → slot_at (note_off channel key e).engine i ≡ let_off (pedal_down e channel) (held_key channel key) (slot_at e i) =
    λ i. ap (λ (a : Answered). slot_at a.engine i) d ∙ after-off channel key e i in
    record {
      all = λ i t. at i ∙ let_off-picked (pedal_down e channel) (held_key channel key) (slot_at e i) t;
      none = λ i. ap (held_key channel key) (at i) ∙ no (pedal_down e channel) (slot_at e i) (held_key channel key (slot_at e i)) refl;
      others = λ i t. at i ∙ off-keeps (pedal_down e channel) (held_key channel key) (slot_at e i) t;
      counted = ap (λ (a : Answered). a.count) d;
    }
  where
    no : (down : Bool) (s : Slot) (b : Bool) → held_key channel key s ≡ b → held_key channel key (let_off down (held_key channel key) s) ≡ false
    no down s true t = ap (held_key channel key) (let_off-picked down (held_key channel key) s t) ∙ gone channel key s down
    no down s false t = ap (held_key channel key) (off-keeps down (held_key channel key) s t) ∙ t

-- velocity 0 is tested before the bank is looked at
pub zero-off : VelocityZeroIsNoteOff
unfolding note_on note_off
zero-off b ram rom channel key e h k = simp (le-ltb 15 channel h, le-ltb 127 key k)
