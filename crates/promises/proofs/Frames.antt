-- Any number of frames of one slot: what they keep of its voice, and how a release ages.
use Prim.Native.Nat.{ℕ, zero, suc, ◌≤◌, ◌<◌, ◌*◌, ◌/◌, ◌+◌}
use mathlib.Core.Path.{◌≡◌, refl, sym, ap, ◌∙◌, subst}
use mathlib.Core.Bool.{true, false, Bool}
use mathlib.Core.List.{List}
use lib.IntN.{ℤ}
use native.Mathlib.Omega.{arith}
use native.Mathlib.Nat.{le-div_iff_mul-le, zero-lt-suc, add-zero}
use lib.Dec.{eqb-suc-zero, leb}
use borrow.Author.Tests.{le-leb, leb-true, leb-false}
use Rattle.voice.specs.declared.Stage.{Stage}
use Rattle.voice.specs.declared.Voice.{Voice}
use Rattle.voice.specs.declared.Channel.{Channel}
use Rattle.voice.specs.declared.Slot.{Slot}
use Rattle.voice.specs.Changes.{with_moved}
use Rattle.voice.specs.Stages.{spent, released, release_at, entered, dead}
use Rattle.voice.specs.Sound.{loss}
use Rattle.voice.specs.Motion.{step}
use Rattle.voice.specs.Frames.{frame, after, living, frame_at}
use Rattle.voice.proofs.RunLaws.{frame-keeps}
use Rattle.voice.proofs.Advance.{sounded, not-both, plays}
use Rattle.voice.specs.declared.Stage.TheVariants.{Release, Delay, Attack, Hold, Decay, Sustain}
use Rattle.voice.specs.declared.Framed.{Framed}
use Rattle.voice.proofs.FramesLaws.{frame_on, living-dead}

module _ (c : Channel) (w : List ℤ) where
  -- what holds of a voice, however it has moved, holds of it after n frames
  pub after-keeps : (P : Voice → Type 0) → ((v : Voice) (g : Stage) (p : ℕ) → P v → P (with_moved v g p v.marked)) → (n : ℕ) (s : Slot) → P s.voice → P (after c w n s).voice
  unfolding after frame
  after-keeps P k zero s h = h
  after-keeps P k (suc n) s h =
      let t = after c w n s in
      let p = after-keeps P k n s h in
      frame-keeps P (step c t.voice) (loss c t.voice) w t p (λ g q. k t.voice (spent g) q p)

  -- a slot that sounds after them sounded before
  pub after-sounded : (n : ℕ) (s : Slot) → (after c w n s).sounding ≡ true → s.sounding ≡ true
  unfolding after frame
  after-sounded zero s e = e
  after-sounded (suc n) s e =
      let t = after c w n s in
      after-sounded n s (sounded (step c t.voice) (loss c t.voice) w t e)

-- and before one
frame-sounded : (c : Channel) (w : List ℤ) (s : Slot) → (frame c w s).slot.sounding ≡ true → s.sounding ≡ true
unfolding frame
frame-sounded c w s e = sounded (step c s.voice) (loss c s.voice) w s e

-- ---- a release

-- a voice that has spent f frames or more in its release; where it has rendered one, it is not past its last
pub record Late (f : ℕ) (v : Voice) : Type 0 where
  pub from : ℕ
  pub t : ℕ
  pub stage : v.stage ≡ Release from t
  pub spent : f ≤ t
  pub young : 0 < f → t ≤ v.release

-- a released voice
pub late-none : (v : Voice) → released v.stage ≡ true → Late 0 v
late-none v h = by v.stage refl h
  where
    no : 0 < 0 → ⊥
    no h = omega arith

    none : (s : Stage) → v.stage ≡ s → released s ≡ false → released s ≡ true → Late 0 v
    none s q f e = not-both (released s) e f

    by : (s : Stage) → v.stage ≡ s → released s ≡ true → Late 0 v
    by (Delay left) q e = none (Delay left) q refl e
    by (Attack t) q e = none (Attack t) q refl e
    by (Hold t) q e = none (Hold t) q refl e
    by (Decay t) q e = none (Decay t) q refl e
    by Sustain q e = none Sustain q refl e
    by (Release a t) q e = record { from = a; t = t; stage = q; spent = omega arith; young = λ h. absurd (no h) }

-- after its N frames a release stands at 1,000 cB or more
over : (n a t : ℕ) → n ≤ t → 1000 ≤ release_at n a t
unfolding release_at
over zero a t h = omega arith
over (suc m) a t h =
    let q : 1000 ≤ 1000 * t / suc m = (le-div_iff_mul-le {x = 1000} (zero-lt-suc m)).1 (omega arith) in
    rw (eqb-suc-zero m) (omega arith)

-- one frame
late-frame : (c : Channel) (w : List ℤ) (f : ℕ) (s : Slot) → Late f s.voice → (frame c w s).slot.sounding ≡ true → Late (f + 1) (frame c w s).slot.voice
unfolding frame
late-frame c w f s k e =
    let st = step c s.voice in
    let l = loss c s.voice in
    let v = s.voice in
    let on = sounded st l w s e in
    let q : frame_at st l w s ≡ living st l w v (Release k.from k.t) = frame_on st l w s on ∙ ap (λ (g : Stage). living st l w v (entered v g)) k.stage in
    let n = sym (ap (λ (x : Framed). x.slot.sounding) q) ∙ e in
    let p = plays st l w v (Release k.from k.t) refl n in
    subst (λ (x : Slot). Late (f + 1) x.voice) (sym (ap (λ (x : Framed). x.slot) q ∙ p))
    (record { from = k.from; t = k.t + 1; stage = refl; spent = omega (arith, k.spent); young = λ z. alive (dead v (Release k.from k.t)) refl n })
  where
    alive : (b : Bool) → dead s.voice (Release k.from k.t) ≡ b → (living (step c s.voice) (loss c s.voice) w s.voice (Release k.from k.t)).slot.sounding ≡ true
        → k.t + 1 ≤ s.voice.release
    alive true d n = not-both _ n (ap (λ (x : Framed). x.slot.sounding) (living-dead (step c s.voice) (loss c s.voice) w s.voice (Release k.from k.t) d))
    alive false d n = young (leb s.voice.release k.t) refl
      where
        young : (b : Bool) → leb s.voice.release k.t ≡ b → k.t + 1 ≤ s.voice.release
        young true g =
            not-both _ (le-leb 1000 (release_at s.voice.release k.from k.t) (over s.voice.release k.from k.t (leb-true s.voice.release k.t g))) d
        young false g = omega (arith, leb-false s.voice.release k.t g)

-- n frames
pub late-after : (c : Channel) (w : List ℤ) (f n : ℕ) (s : Slot) → Late f s.voice → (after c w n s).sounding ≡ true → Late (f + n) (after c w n s).voice
unfolding after
late-after c w f zero s k e = rw add-zero k
late-after c w f (suc n) s k e =
    let t = after c w n s in
    let on : t.sounding ≡ true = frame-sounded c w t e in
    let q : f + n + 1 ≡ f + suc n = omega arith in
    subst (λ (m : ℕ). Late m (frame c w t).slot.voice) q (late-frame c w (f + n) t (late-after c w f n s k on) e)
