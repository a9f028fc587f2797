-- What a voice adds is within `loudest`, whatever its record says, and 32 times that fits the sums.
use Prim.Native.Nat.{ℕ, ◌≤◌, zero, suc, ◌*◌, ◌<◌}
use mathlib.Core.List.{List}
use lib.IntN.{ℤ, pos}
use lib.Dec.{lit<, lit≤}
use mathlib.Core.Bool.{Bool, true, false, cond}
use native.Mathlib.Omega.{arith}
use Rattle.arith.specs.Within.{Within}
use Rattle.voice.specs.Motion.{folds}
use Rattle.voice.proofs.ReadingLaws.{reading-in}
use Rattle.arith.proofs.WithinLaws.{w-nat, w_le, w-add, w-sub, w-mul, w-floor-by, w-lit}
use Rattle.curves.proofs.PitchLaws.{gain-le}
use Rattle.voice.specs.Sound.{gained, shaped, pan_of, left_of, right_of}
use Rattle.voice.specs.Stages.{level_at, entered, dead, waiting}
use Rattle.voice.specs.declared.Stage.{Stage}
use Rattle.voice.specs.declared.Stage.TheVariants.{Delay, Attack, Hold, Decay, Sustain, Release}
use Rattle.voice.specs.declared.Voice.{Voice}
use Rattle.voice.specs.Frames.{loud, silent, moved, read_and_moved, living, frame_at, frame, after}
use Rattle.arith.proofs.HoldsLaws.{held-within}
use Rattle.voice.specs.Internal.Sums.{loudest, Small}
use Rattle.voice.specs.declared.Framed.{Framed}
use Rattle.voice.specs.declared.Slot.{Slot}
use Rattle.voice.specs.Changes.{sounds, free}
use Rattle.voice.specs.declared.Channel.{Channel}
use Rattle.voice.specs.Internal.Frames.{heard}
use Rattle.voice.proofs.SumsLaws.{small-none, small-two}

-- at its gain, which is at most 2^24
gained-in : (x : ℤ) (a : ℕ) → Within x 32768 → Within (gained x a) 8388609
unfolding gained
gained-in x a h = w-floor-by 8388609 65536 (lit< tt) (lit≤ tt) (w-mul h (w-nat (gain-le a)))

-- a level is at most full
pub level-le : (n t : ℕ) → level_at n t ≤ 16777216
unfolding level_at
level-le n t = omega arith

-- at its level
shaped_in : (v : Voice) (s : Stage) (u : ℤ) → Within u 8388609 → Within (shaped v s u) 8388610
shaped_in v (Delay left) u h = w_le h (lit≤ tt)
shaped_in v (Attack t) u h = w-floor-by 8388610 16777216 (lit< tt) (lit≤ tt) (w-mul h (w-nat (level-le v.attack t)))
shaped_in v (Hold t) u h = w_le h (lit≤ tt)
shaped_in v (Decay t) u h = w_le h (lit≤ tt)
shaped_in v Sustain u h = w_le h (lit≤ tt)
shaped_in v (Release a t) u h = w_le h (lit≤ tt)

-- what a frame gives before its pan
loud-in : (l : ℤ) (w : List ℤ) (v : Voice) (s : Stage) → Within (loud l w v s) 8388610
unfolding loud
loud-in l w v s = shaped_in v s _ (gained-in _ _ (reading-in (folds v s) v.loopfrom v.loopto w v.place))

-- the pan's total is held to -500..500
pan-in : (p : ℤ) → Within (pan_of p) 500
pan-in p = held-within p 499

-- the left share
left_in : (u p : ℤ) → Within u 8388610 → Within (left_of u p) loudest
unfolding left_of
left_in u p h = w-floor-by 8388611 1000 (lit< tt) (lit≤ tt) (w-mul h (w-sub (w-lit (pos 500)) (pan-in p)))

-- the right share
right-in : (u p : ℤ) → Within u 8388610 → Within (right_of u p) loudest
unfolding right_of
right-in u p h = w-floor-by 8388611 1000 (lit< tt) (lit≤ tt) (w-mul h (w-add (w-lit (pos 500)) (pan-in p)))

-- both sides of a frame
abbrev pub Quiet : Framed → Type 0
Quiet f = Within f.left loudest × Within f.right loudest

-- no sound
none : Within (pos 0) loudest
none = w-nat (lit≤ tt)

-- one frame of any slot adds at most `loudest` on each side
pub frame-in : (st : ℕ) (l : ℤ) (w : List ℤ) (s : Slot) → Quiet (frame_at st l w s)
unfolding frame_at living read_and_moved
frame-in st l w s = by s.sounding (dead v g) (waiting g)
  where
    v : Voice
    v = s.voice

    g : Stage
    g = entered s.voice s.voice.stage

    by : (a b c : Bool) → Quiet (cond a (cond b (silent (free v)) (cond c (silent (sounds (moved v g v.place))) (read_and_moved st l w v g))) (silent s))
    by true true c = (none, none)
    by true false true = (none, none)
    by true false false = (left_in _ v.pan (loud-in l w v g), right-in _ v.pan (loud-in l w v g))
    by false b c = (none, none)

-- what n frames of a voice add: 32 voices' sums stay within 32 times `loudest`, and that is a signed 32-bit number
pub heard-in : (c : Channel) (w : List ℤ) (n : ℕ) (s : Slot) → Small 1 (heard c w n s)
unfolding heard frame
heard-in c w zero s = small-none
heard-in c w (suc n) s =
    let f = frame-in _ _ w (after c w n s) in
    small-two (heard c w n s) _ _ (heard-in c w n s) f.0 f.1

-- 32 voices together
pub thirty_two : 32 * loudest < 2147483648
thirty_two = lit< tt
