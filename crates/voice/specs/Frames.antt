-- 01, "A voice, frame by frame": one frame of one slot, and n frames. The last frame stands outside, so that a turn of a loop is one step of it.
use Rattle.std.specs.Prelude.{pos, ℤ, ℕ, ◌+◌, zero, suc, cond, List}
use Rattle.voice.specs.declared.Slot.{Slot}
use Rattle.voice.specs.declared.Framed.{Framed}
use Rattle.voice.specs.declared.Stage.{Stage}
use Rattle.voice.specs.declared.Voice.{Voice}
use Rattle.voice.specs.Changes.{with_moved, sounds, free}
use Rattle.voice.specs.Stages.{spent, envelope, dead, waiting, entered}
use Rattle.voice.specs.Motion.{settled, ended, folds, step}
use Rattle.voice.specs.Reading.{reading}
use Rattle.voice.specs.Sound.{whole_loss, gained, shaped, left_of, right_of, loss}
use Rattle.voice.specs.declared.Channel.{Channel}

-- a slot that adds nothing
abbrev pub silent : Slot → Framed
silent s = record { slot = s; left = pos 0; right = pos 0 }

-- the voice with its frame spent, at place p
abbrev pub moved : Voice → Stage → ℕ → Voice
moved v s p = with_moved v (spent s) p v.marked

-- moved to p, and folded or freed at once
unfoldable pub go_on : Voice → Stage → ℕ → Slot
go_on v s p = cond (ended v s p) (free v) (sounds (moved v s (settled v s p)))

-- u: the reading at its gain, and in attack at its level
unfoldable pub loud : ℤ → List ℤ → Voice → Stage → ℤ
loud l w v s =
    shaped v s (gained (reading (folds v s) v.loopfrom v.loopto w v.place) (whole_loss l (envelope v s)))

-- past its delay: read, then moved by its step
unfoldable pub read_and_moved : ℕ → ℤ → List ℤ → Voice → Stage → Framed
read_and_moved st l w v s =
    record {
      slot = go_on v s (v.place + st);
      left = left_of (loud l w v s) v.pan;
      right = right_of (loud l w v s) v.pan;
    }

-- in stage s, spent ones left: freed if dead; silent in delay, where its place stands; else played
unfoldable pub living : ℕ → ℤ → List ℤ → Voice → Stage → Framed
living st l w v s =
    cond (dead v s) (silent (free v))
    (cond (waiting s) (silent (sounds (moved v s v.place))) (read_and_moved st l w v s))

-- one frame of a slot whose step is st and whose loss is l; a free one is left as it is
unfoldable pub frame_at : ℕ → ℤ → List ℤ → Slot → Framed
frame_at st l w s = cond s.sounding (living st l w s.voice (entered s.voice s.voice.stage)) (silent s)

-- one frame of a slot, with bend, 7 and 11 of its channel as they stand
unfoldable pub frame : Channel → List ℤ → Slot → Framed
frame c w s = frame_at (step c s.voice) (loss c s.voice) w s

-- the slot after n frames
unfoldable pub after : Channel → List ℤ → ℕ → Slot → Slot
after c w zero s = s
after c w (suc n) s = (frame c w (after c w n s)).slot

-- what it gives left in frame k, counted from 0
abbrev pub left_in : Channel → List ℤ → ℕ → Slot → ℤ
left_in c w k s = (frame c w (after c w k s)).left

-- what it gives right in frame k
abbrev pub right_in : Channel → List ℤ → ℕ → Slot → ℤ
right_in c w k s = (frame c w (after c w k s)).right
