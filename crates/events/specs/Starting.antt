-- 01, "Slots, keys and the clock": a note-on past its tests. Rivals of a class are freed, and layers started in slots.
use Rattle.std.specs.Prelude.{Bool, not, ◌&&◌, List, [], ◌∷◌, map, ℤ, ℕ, ◌^◌, eqb}
use Rattle.std.specs.Int.Bits.{bit_or}
use Rattle.arith.specs.Lists.{any_of}
use Rattle.voice.specs.declared.Voice.{Voice}
use Rattle.state.specs.Reach.{ends_past}
use Rattle.voice.specs.declared.Slot.{Slot}
use Rattle.state.specs.Slots.{of_channel, slots_of, with_slots, cut}
use Rattle.state.specs.declared.Engine.{Engine}
use Rattle.state.specs.Seats.{seat, start_in}

-- the window of one of the voices ends past its memory
unfoldable pub any_past : List ℤ → List ℤ → List Voice → Bool
any_past ram rom vs = any_of (ends_past ram rom) vs

-- a voice has the class, which is not 0
abbrev pub same_class : ℕ → Voice → Bool
same_class class v = not (eqb class 0) && eqb v.class class

-- one of the voices has the class, which is not 0
unfoldable pub class_in : ℕ → List Voice → Bool
class_in class vs = any_of (same_class class) vs

-- a voice of the channel that has the same nonzero class as one of the layers
unfoldable pub rival : ℕ → List Voice → Slot → Bool
rival channel vs s = of_channel channel s && class_in s.voice.class vs

-- the state, and the word of the slots that this note-on has started
pub record Started : Type 0 where
  pub engine : Engine
  pub mine : ℕ

-- one layer started
unfoldable pub start : Voice → Started → Started
start v x =
    record {
      engine = start_in (seat x.engine x.mine) v x.engine;
      mine = bit_or x.mine (2 ^ seat x.engine x.mine);
    }

-- the layers started in order
unfoldable pub start_all : List Voice → Started → Started
start_all [] x = x
start_all (v ∷ vs) x = start_all vs (start v x)

-- the rivals freed
unfoldable pub cleared : ℕ → List Voice → Engine → Engine
cleared channel vs e = with_slots e (map (cut (rival channel vs)) (slots_of e))

-- a note-on past its tests
unfoldable pub struck : ℕ → List Voice → Engine → Started
struck channel vs e = start_all vs (record { engine = cleared channel vs e; mine = 0 })
