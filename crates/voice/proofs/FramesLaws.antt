-- The cases of a frame, one law each, as the code's tests lead to them.
use mathlib.Core.Path.{◌≡◌, refl}
use mathlib.Core.Bool.{Bool, true, false, ◌&&◌, not, ◌||◌}
use Prim.Native.Nat.{◌<◌, ℕ, ◌*◌, ◌≤◌}
use borrow.Author.Tests.{ltb-true, le-leb, lt-leb}
use lib.Dec.{eqb, ltb}
use mathlib.Core.List.{List}
use lib.IntN.{ℤ}
use Rattle.voice.specs.declared.Stage.{Stage}
use Rattle.voice.specs.declared.Voice.{Voice}
use Rattle.voice.specs.Stages.{released, entered, dead, waiting}
use Rattle.voice.specs.Motion.{folds, folded, span, settled, ended}
use Rattle.voice.specs.Changes.{sounds, free}
use Rattle.voice.specs.Frames.{moved, go_on, silent, read_and_moved, living, frame_at}
use Rattle.voice.specs.declared.Slot.{Slot}

-- what is true of `a && b` is true of a
pub and_first : (a b : Bool) → (a && b) ≡ true → a ≡ true
and_first true b e = refl
and_first false b e = e

-- a loop that is folded has a length
pub folds-loop : (v : Voice) (s : Stage) → folds v s ≡ true → v.loopfrom < v.loopto
unfolding folds
folds-loop v s e =
    ltb-true v.loopfrom v.loopto
    (and_first (ltb v.loopfrom v.loopto) (eqb v.mode 1 || eqb v.mode 3 && not (released s)) e)

module _ (v : Voice) (s : Stage) (p : ℕ) where
  -- it folds
  pub go-fold : folds v s ≡ true → go_on v s p ≡ sounds (moved v s (folded v p))
  unfolding go_on ended settled
  go-fold e = simp e

  -- it does not, and is at or past the end
  pub go-end : folds v s ≡ false → span v * 16777216 ≤ p → go_on v s p ≡ free v
  unfolding go_on ended settled
  go-end e h = simp (e, le-leb (span v * 16777216) p h)

  -- it does not, and is before the end
  pub go-stay : folds v s ≡ false → p < span v * 16777216 → go_on v s p ≡ sounds (moved v s p)
  unfolding go_on ended settled
  go-stay e h = simp (e, lt-leb (span v * 16777216) p h)

module _ (st : ℕ) (l : ℤ) (w : List ℤ) where
  -- a free slot
  pub frame-free : (s : Slot) → s.sounding ≡ false → frame_at st l w s ≡ silent s
  unfolding frame_at
  frame-free s e = simp e

  -- a slot that sounds
  pub frame_on : (s : Slot) → s.sounding ≡ true → frame_at st l w s ≡ living st l w s.voice (entered s.voice s.voice.stage)
  unfolding frame_at
  frame_on s e = simp e

  module _ (v : Voice) (s : Stage) where
    -- its envelope has died away
    pub living-dead : dead v s ≡ true → living st l w v s ≡ silent (free v)
    unfolding living
    living-dead e = simp e

    -- it is in delay
    pub living-waits : dead v s ≡ false → waiting s ≡ true → living st l w v s ≡ silent (sounds (moved v s v.place))
    unfolding living
    living-waits e h = simp (e, h)

    -- it plays
    pub living-plays : dead v s ≡ false → waiting s ≡ false → living st l w v s ≡ read_and_moved st l w v s
    unfolding living
    living-plays e h = simp (e, h)
