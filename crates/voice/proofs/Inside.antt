-- A voice never reads outside its window: it reads samples of the window, and the zeros that stand in front of its first and behind its last.
use Prim.Native.Nat.{◌*◌, ◌≤◌, ◌<◌, ℕ, ◌/◌, ◌+◌, zero, suc}
use mathlib.Core.Path.{◌≡◌, refl}
use mathlib.Core.Bool.{true, Bool, false, cond, ◌&&◌, not}
use mathlib.Core.List.{List}
use lib.IntN.{ℤ, pos}
use lib.ListN.{length, get_or-eq_default}
use mathlib.Core.Logic.{◌⊎◌, ⊎_elim, inl, inr}
use native.Mathlib.Omega.{arith}
use native.Mathlib.Nat.{div-lt_iff_lt-mul}
use lib.Dec.{lit<, leb}
use borrow.Author.Tests.{leb-false}
use Rattle.voice.specs.declared.Stage.{Stage}
use Rattle.voice.specs.declared.Voice.{Voice}
use Rattle.voice.specs.Motion.{folds, span, folded, settled, ended}
use Rattle.voice.specs.Reading.{sample, behind}
use Rattle.voice.proofs.MotionLaws.{split, fold-lt}
use Rattle.voice.proofs.FramesLaws.{folds-loop}
use Rattle.voice.proofs.ReadingLaws.{behind-lt}
use Rattle.voice.proofs.Advance.{not-both}
use Rattle.voice.specs.Changes.{with_moved, sounds, free}
use Rattle.voice.specs.declared.Slot.{Slot}
use Rattle.voice.specs.Stages.{entered, dead, waiting, spent}
use Rattle.voice.specs.Frames.{silent, moved, go_on, read_and_moved, living, frame_at, frame, after}
use Rattle.voice.specs.declared.Channel.{Channel}

-- the voice's window is w, its place lies in it, and so does its loop wherever it folds
pub record Inside (w : List ℤ) (v : Voice) : Type 0 where
  pub window : length w ≡ span v
  pub place : v.place < span v * 16777216
  pub loop : (s : Stage) → folds v s ≡ true → v.loopto ≤ span v

-- sample i is one of the window's, or it is one of the first n zeros behind its last
abbrev pub Read : List ℤ → ℕ → ℕ → Type 0
Read w n i = (i < length w) ⊎ ((length w ≤ i) × (i < length w + n) × (sample w i ≡ pos 0))

-- the samples that a frame in stage s reads; the one before the first is the window's, or none is there
pub record Reads (w : List ℤ) (v : Voice) (s : Stage) : Type 0 where
  pub first : v.place / 16777216 < length w
  pub second : Read w 1 (behind (folds v s) v.loopfrom v.loopto (v.place / 16777216))
  pub third : Read w 2 (behind (folds v s) v.loopfrom v.loopto (behind (folds v s) v.loopfrom v.loopto (v.place / 16777216)))

-- not past those zeros
read-in : (w : List ℤ) (n i : ℕ) → i < length w + n → Read w n i
read-in w n i h =
    ⊎_elim (λ (l : i < length w). inl l)
    (λ (g : length w ≤ i). inr (g, h, get_or-eq_default w (pos 0) {n = i} g))
    (split i (length w))

-- a voice inside its window reads samples of it, or zeros behind its last
pub inside-reads : (w : List ℤ) (v : Voice) (s : Stage) → Inside w v → Reads w v s
inside-reads w v s h =
    record {
      first = at;
      second = read-in w 1 j one;
      third = read-in w 2 _ (omega (arith, behind-lt (folds v s) v.loopfrom v.loopto j (length w + 1) one (λ e. omega (arith, loops e))));
    }
  where
    i : ℕ
    i = v.place / 16777216

    j : ℕ
    j = behind (folds v s) v.loopfrom v.loopto (v.place / 16777216)

    at : v.place / 16777216 < length w
    at = rw h.window ((div-lt_iff_lt-mul (lit< tt)).1 h.place)

    loops : folds v s ≡ true → v.loopfrom < length w
    loops e = let l = folds-loop v s e in omega (arith, h.loop s e, h.window)

    one : behind (folds v s) v.loopfrom v.loopto (v.place / 16777216) < length w + 1
    one = behind-lt (folds v s) v.loopfrom v.loopto (v.place / 16777216) (length w) at loops

-- moved and not ended, it lies in its window, and before the loop's end where it folds
pub settled-in : (v : Voice) (g : Stage) (p : ℕ) → (folds v g ≡ true → v.loopto ≤ span v) → ended v g p ≡ false
    → (settled v g p < span v * 16777216) × (folds v g ≡ true → settled v g p < v.loopto * 16777216)
unfolding settled ended
settled-in v g p h = by (folds v g) refl
  where
    by : (f : Bool) → folds v g ≡ f → (not f && leb (span v * 16777216) p) ≡ false
        → (cond f (folded v p) p < span v * 16777216) × (f ≡ true → cond f (folded v p) p < v.loopto * 16777216)
    by true q e =
        let l = folds-loop v g q in
        let z = fold-lt (v.loopfrom * 16777216) (v.loopto * 16777216) p (omega arith) in
        (omega (arith, h q, z), λ t. z)
    by false q e = (leb-false _ _ e, λ t. not-both false t refl)

-- only the place moves in it
moved_in : (w : List ℤ) (v : Voice) (x : Stage) (p : ℕ) → Inside w v → p < span v * 16777216 → Inside w (with_moved v x p v.marked)
unfolding folds
moved_in w v x p h k = record { window = h.window; place = k; loop = h.loop }

-- a frame keeps it inside
pub frame-inside : (st : ℕ) (l : ℤ) (w : List ℤ) (s : Slot) → Inside w s.voice → Inside w (frame_at st l w s).slot.voice
unfolding frame_at living read_and_moved go_on
frame-inside st l w s h = by s.sounding (dead v g) (waiting g) (ended v g (v.place + st)) refl
  where
    v : Voice
    v = s.voice

    g : Stage
    g = entered s.voice s.voice.stage

    by : (a b c d : Bool) → ended v g (v.place + st) ≡ d
        → Inside w (cond a (cond b (silent (free v)) (cond c (silent (sounds (moved v g v.place))) (record { slot = cond d (free v) (sounds (moved v g (settled v g (v.place + st)))); left = (read_and_moved st l w v g).left; right = (read_and_moved st l w v g).right }))) (silent s)).slot.voice
    by true true c d e = h
    by true false true d e = moved_in w v (spent g) v.place h h.place
    by true false false true e = h
    by true false false false e = moved_in w v (spent g) _ h (settled-in v g (v.place + st) (h.loop g) e).0
    by false b c d e = h

-- and so do n frames
pub after-inside : (c : Channel) (w : List ℤ) (n : ℕ) (s : Slot) → Inside w s.voice → Inside w (after c w n s).voice
unfolding after frame
after-inside c w zero s h = h
after-inside c w (suc n) s h = frame-inside _ _ w (after c w n s) (after-inside c w n s h)

-- whatever it plays, a voice that starts inside its window reads nothing else
pub never-outside : (c : Channel) (w : List ℤ) (n : ℕ) (s : Slot) → Inside w s.voice → (g : Stage) → Reads w (after c w n s).voice g
never-outside c w n s h g = inside-reads w (after c w n s).voice g (after-inside c w n s h)
