-- Laws of a run of frames: lengths, any cut, and step and loss found once.
use Prim.Native.Nat.{ℕ, zero, suc, ◌+◌, ◌*◌}
use mathlib.Core.Path.{◌≡◌, refl, ap, ap₂, ◌∙◌}
use mathlib.Core.List.{List, [], ◌∷◌, ◌++◌, append_assoc, append-nil}
use native.Mathlib.Nat.{add-zero, add-suc}
use native.Mathlib.Omega.{arith}
use lib.IntN.{ℤ}
use lib.ListN.{length, length-append}
use mathlib.Core.Bool.{Bool, true, false, cond}
use Rattle.voice.specs.declared.Slot.{Slot}
use Rattle.voice.specs.Frames.{frame_at, frame, after, silent, moved, go_on, read_and_moved, living, left_in, right_in}
use Rattle.voice.specs.Internal.Frames.{after_at, heard_at, heard}
use Rattle.voice.specs.declared.Channel.{Channel}
use Rattle.voice.specs.declared.Stage.{Stage}
use Rattle.voice.specs.declared.Voice.{Voice}
use Rattle.voice.specs.Changes.{free, sounds}
use Rattle.voice.specs.Stages.{entered, dead, waiting}
use Rattle.voice.specs.Motion.{ended, settled, step, pitch_total}
use Rattle.voice.specs.Sound.{loss}
use Rattle.voice.specs.declared.Framed.{Framed}

module _ (st : ℕ) (l : ℤ) (w : List ℤ) where
  -- two numbers a frame
  pub heard-length : (n : ℕ) (s : Slot) → length (heard_at st l w n s) ≡ 2 * n
  unfolding heard_at
  heard-length zero s = refl
  heard-length (suc n) s = simp length-append (omega (arith, heard-length n s))

  -- m + n frames are m and then n
  pub at_cut : (m n : ℕ) (s : Slot) → after_at st l w (m + n) s ≡ after_at st l w n (after_at st l w m s)
  unfolding after_at
  at_cut m zero s = rw add-zero
  at_cut m (suc n) s = rw add-suc (ap (λ (x : Slot). (frame_at st l w x).slot) (at_cut m n s))

  -- the same of what is heard
  pub heard_at-cut : (m n : ℕ) (s : Slot) → heard_at st l w (m + n) s ≡ heard_at st l w m s ++ heard_at st l w n (after_at st l w m s)
  unfolding heard_at
  heard_at-cut m zero s = rw (add-zero, append-nil)
  heard_at-cut m (suc n) s =
      let x = after_at st l w n (after_at st l w m s) in
      rw add-suc
      (ap₂ (λ (xs : List ℤ) (y : Slot). xs ++ ((frame_at st l w y).left ∷ (frame_at st l w y).right ∷ [])) (heard_at-cut m n s) (at_cut m n s)
      ∙ append_assoc (heard_at st l w m s) (heard_at st l w n (after_at st l w m s)) ((frame_at st l w x).left ∷ (frame_at st l w x).right ∷ []))

-- a run may be cut anywhere
pub after-cut : (c : Channel) (w : List ℤ) (m n : ℕ) (s : Slot) → after c w (m + n) s ≡ after c w n (after c w m s)
unfolding after
after-cut c w m zero s = rw add-zero
after-cut c w m (suc n) s = rw add-suc (ap (λ (x : Slot). (frame c w x).slot) (after-cut c w m n s))

-- and what is heard of it is heard of its parts
pub heard-cut : (c : Channel) (w : List ℤ) (m n : ℕ) (s : Slot) → heard c w (m + n) s ≡ heard c w m s ++ heard c w n (after c w m s)
unfolding heard
heard-cut c w m zero s = rw (add-zero, append-nil)
heard-cut c w m (suc n) s =
    let x = after c w n (after c w m s) in
    rw add-suc
    (ap₂ (λ (xs : List ℤ) (y : Slot). xs ++ ((frame c w y).left ∷ (frame c w y).right ∷ [])) (heard-cut c w m n s) (after-cut c w m n s)
    ∙ append_assoc (heard c w m s) (heard c w n (after c w m s)) ((frame c w x).left ∷ (frame c w x).right ∷ []))

-- what holds of a voice and of it moved holds of it after a frame
pub frame-keeps : (Q : Voice → Type 0) (st : ℕ) (l : ℤ) (w : List ℤ) (s : Slot) → Q s.voice
    → ((g : Stage) (p : ℕ) → Q (moved s.voice g p)) → Q (frame_at st l w s).slot.voice
unfolding frame_at living read_and_moved go_on
frame-keeps Q st l w s h k = by s.sounding (dead v g) (waiting g) (ended v g (v.place + st))
  where
    v : Voice
    v = s.voice

    g : Stage
    g = entered s.voice s.voice.stage

    by : (a b c d : Bool)
        → Q (cond a (cond b (silent (free v)) (cond c (silent (sounds (moved v g v.place))) (record { slot = cond d (free v) (sounds (moved v g (settled v g (v.place + st)))); left = (read_and_moved st l w v g).left; right = (read_and_moved st l w v g).right }))) (silent s)).slot.voice
    by true true c d = h
    by true false true d = k g v.place
    by true false false true = h
    by true false false false = k g (settled v g (v.place + st))
    by false b c d = h

-- step and loss stay as they are from frame to frame
step_kept : (c : Channel) (st : ℕ) (l : ℤ) (w : List ℤ) (s : Slot) → step c (frame_at st l w s).slot.voice ≡ step c s.voice
unfolding step pitch_total
step_kept c st l w s = frame-keeps (λ (v : Voice). step c v ≡ step c s.voice) st l w s refl (λ g p. refl)

-- the same of the loss
loss-kept : (c : Channel) (st : ℕ) (l : ℤ) (w : List ℤ) (s : Slot) → loss c (frame_at st l w s).slot.voice ≡ loss c s.voice
unfolding loss
loss-kept c st l w s = frame-keeps (λ (v : Voice). loss c v ≡ loss c s.voice) st l w s refl (λ g p. refl)

module _ (c : Channel) (w : List ℤ) (s : Slot) where
  -- the step before the first frame
  abbrev st : ℕ
  st = step c s.voice

  -- the loss before the first frame
  abbrev l : ℤ
  l = loss c s.voice

  -- the step after n frames
  steps-kept : (n : ℕ) → step c (after_at st l w n s).voice ≡ st
  unfolding after_at
  steps-kept zero = refl
  steps-kept (suc n) = step_kept c st l w (after_at st l w n s) ∙ steps-kept n

  -- the loss after n frames
  losses-kept : (n : ℕ) → loss c (after_at st l w n s).voice ≡ l
  unfolding after_at
  losses-kept zero = refl
  losses-kept (suc n) = loss-kept c st l w (after_at st l w n s) ∙ losses-kept n

  -- one frame, wherever the run stands
  frame-once : (n : ℕ) → frame c w (after_at st l w n s) ≡ frame_at st l w (after_at st l w n s)
  unfolding frame
  frame-once n = rw (steps-kept n, losses-kept n)

  -- step and loss may be found once, before the first frame
  pub once : (n : ℕ) → after c w n s ≡ after_at st l w n s
  unfolding after after_at
  once zero = refl
  once (suc n) = ap (λ (x : Slot). (frame c w x).slot) (once n) ∙ ap (λ (f : Framed). f.slot) (frame-once n)

  -- the same of a left
  pub left-once : (k : ℕ) → left_in c w k s ≡ (frame_at st l w (after_at st l w k s)).left
  left-once k = ap (λ (x : Slot). (frame c w x).left) (once k) ∙ ap (λ (f : Framed). f.left) (frame-once k)

  -- of a right
  pub right-once : (k : ℕ) → right_in c w k s ≡ (frame_at st l w (after_at st l w k s)).right
  right-once k = ap (λ (x : Slot). (frame c w x).right) (once k) ∙ ap (λ (f : Framed). f.right) (frame-once k)

  -- and of all that is heard
  pub heard-once : (n : ℕ) → heard c w n s ≡ heard_at st l w n s
  unfolding heard heard_at
  heard-once zero = refl
  heard-once (suc n) = ap₂ ◌++◌ (heard-once n) (ap₂ (λ (a b : ℤ). a ∷ b ∷ []) (left-once n) (right-once n))
