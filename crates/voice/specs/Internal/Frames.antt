-- n frames as the code goes through them, with step and loss found once (`RunLaws.once`: it is the same).
use Rattle.std.specs.Prelude.{ℕ, zero, suc, List, [], ◌∷◌, ◌++◌, ℤ}
use Rattle.voice.specs.declared.Channel.{Channel}
use Rattle.voice.specs.declared.Slot.{Slot}
use Rattle.voice.specs.Frames.{left_in, right_in, frame_at}

-- lefts and rights of the first n frames, alternating
unfoldable pub heard : Channel → List ℤ → ℕ → Slot → List ℤ
heard c w zero s = []
heard c w (suc n) s = heard c w n s ++ (left_in c w n s ∷ right_in c w n s ∷ [])

-- the slot after n frames with step and loss found once, as the code does (`RunLaws.once`: it is the same)
unfoldable pub after_at : ℕ → ℤ → List ℤ → ℕ → Slot → Slot
after_at st l w zero s = s
after_at st l w (suc n) s = (frame_at st l w (after_at st l w n s)).slot

-- the lefts and rights of those
unfoldable pub heard_at : ℕ → ℤ → List ℤ → ℕ → Slot → List ℤ
heard_at st l w zero s = []
heard_at st l w (suc n) s =
    heard_at st l w n s ++ ((frame_at st l w (after_at st l w n s)).left ∷ (frame_at st l w (after_at st l w n s)).right ∷ [])
