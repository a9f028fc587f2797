-- Laws of letting off: a free slot is never picked, and what is not picked stays.
use Prim.Native.Nat.{ℕ}
use mathlib.Core.Path.{◌≡◌, refl}
use mathlib.Core.Bool.{false, true, Bool, cond}
use mir.Val.{bool_byte}
use Rattle.voice.specs.declared.Voice.{Voice}
use Rattle.voice.specs.Changes.{free}
use Rattle.events.specs.declared.Whom.{Whom}
use Rattle.events.specs.declared.Whom.TheVariants.{Key, Every, Marked}
use Rattle.state.specs.Slots.{of_channel}
use Rattle.events.specs.Keys.{held, held_key, pedal_held, let_off}
use Rattle.events.specs.Internal.Keys.{picked}
use Rattle.voice.specs.declared.Slot.{Slot}

-- a test as a number
pub one-if : (b : Bool) → bool_byte b ≡ cond b 1 0
one-if true = refl
one-if false = refl

-- a free slot is never picked
pub picked-free : (channel : ℕ) (whom : Whom) (v : Voice) → picked channel whom (free v) ≡ false
unfolding of_channel held held_key pedal_held
picked-free channel (Key key) v = refl
picked-free channel Every v = refl
picked-free channel Marked v = refl

-- what is not picked stays
pub off-keeps : (down : Bool) (picks : Slot → Bool) (s : Slot) → picks s ≡ false → let_off down picks s ≡ s
unfolding let_off
off-keeps down picks s h = simp h
