-- What the loops of a render keep: the numbers of a slot, added into sums.
use Rattle.std.specs.Prelude.{ℕ, zero, suc, ◌+◌, ◌*◌, List, [], ◌∷◌, ◌++◌, ℤ, pos, slice_index_or, Float}
use Rattle.voice.specs.declared.Slot.{Slot}
use Rattle.voice.specs.Internal.Frames.{heard}
use Rattle.state.specs.declared.Engine.{Engine}
use Rattle.state.specs.Channels.{channel_at}
use Rattle.engine.specs.Rendering.{window}
use Rattle.voice.specs.Internal.Sums.{add_to}
use Rattle.engine.specs.Mixer.{mixed}

-- what a slot gives in n frames, left and right alternating
abbrev pub slot_heard : List ℤ → List ℤ → Engine → ℕ → Slot → List ℤ
slot_heard ram rom e n s = heard (channel_at e s.voice.channel) (window ram rom s.voice) n s

-- each slot's numbers added, one slot after the other
unfoldable pub add_all : (Slot → List ℤ) → List Slot → List ℤ → List ℤ
add_all f [] ys = ys
add_all f (s ∷ ss) ys = add_all f ss (add_to (f s) ys)

-- the first n frames of the output, of the sums
unfoldable pub mixed_to : ℕ → List ℤ → List Float
mixed_to zero xs = []
mixed_to (suc n) xs = mixed_to n xs ++ (mixed (slice_index_or xs (2 * n) (pos 0)) ∷ mixed (slice_index_or xs (2 * n + 1) (pos 0)) ∷ [])
