-- Demand 3 for one voice: n frames of a voice that is past its delay and still sounds after them move its place by n steps, folded while it loops.
use mathlib.Core.Path.{◌≡◌, refl, subst, sym, ◌∙◌, ap}
use mathlib.Core.Bool.{false, Bool, true, cond}
use Prim.Native.Nat.{ℕ, ◌+◌, zero, suc, ◌*◌, ◌<◌}
use lib.Dec.{leb, eqb, T}
use borrow.Author.Tests.{leb-false}
use mathlib.Core.List.{List}
use lib.IntN.{ℤ}
use native.Mathlib.Omega.{arith}
use native.Mathlib.Nat.{add-mul, add-suc, zero-add}
use native.Mathlib.Numerals.{add-one}
use Rattle.voice.specs.declared.Stage.{Stage}
use Rattle.voice.specs.Stages.{waiting, released, from_decay, decay_at, from_hold, from_attack, from_delay, entered, past, spent, dead}
use Rattle.voice.specs.declared.Stage.TheVariants.{Decay, Sustain, Hold, Attack, Delay, Release}
use Rattle.voice.specs.declared.Voice.{Voice}
use Rattle.voice.specs.Changes.{with_moved, sounds, free}
use Rattle.voice.specs.Motion.{folds, settled, ended, folded}
use Rattle.voice.specs.declared.Slot.{Slot}
use Rattle.voice.specs.declared.Framed.{Framed}
use Rattle.voice.specs.Frames.{moved, go_on, read_and_moved, living, frame_at}
use Rattle.voice.proofs.FramesLaws.{frame-free, frame_on, living-dead, living-plays, folds-loop}
use Rattle.voice.proofs.MotionLaws.{fold-add}
use Rattle.voice.specs.Internal.Frames.{after_at}
use Rattle.voice.proofs.Silence.{stays}

-- ---- what leaving spent stages, and a frame spent, keep

-- a property of each stage that may follow a spent one; an attack that is entered is not spent
pub record Follows (v : Voice) (P : Stage → Type 0) : Type 0 where
  pub attack : (t : ℕ) → t < v.attack → P (Attack t)
  pub hold : (t : ℕ) → P (Hold t)
  pub decay : (t : ℕ) → P (Decay t)
  pub sustain : P Sustain

module _ (v : Voice) (P : Stage → Type 0) (f : Follows v P) where
  -- it holds of frame t of decay, or what follows
  pub from-decay : (t : ℕ) → P (from_decay v t)
  unfolding from_decay
  from-decay t = by (leb v.sustain (decay_at v.decay v.sustain t))
    where
      by : (b : Bool) → P (cond b Sustain (Decay t))
      by true = f.sustain
      by false = f.decay t

  -- of hold
  pub from-hold : (t : ℕ) → P (from_hold v t)
  unfolding from_hold
  from-hold t = by (leb v.hold t)
    where
      by : (b : Bool) → P (cond b (from_decay v 0) (Hold t))
      by true = from-decay 0
      by false = f.hold t

  -- of attack
  pub from-attack : (t : ℕ) → P (from_attack v t)
  unfolding from_attack
  from-attack t = by (leb v.attack t) refl
    where
      by : (b : Bool) → leb v.attack t ≡ b → P (cond b (from_hold v 0) (Attack t))
      by true q = from-hold 0
      by false q = f.attack t (leb-false v.attack t q)

  -- and of a delay that is not spent, or what follows
  pub from-delay : (left : ℕ) → (eqb left 0 ≡ false → P (Delay left)) → P (from_delay v left)
  unfolding from_delay
  from-delay left d = by (eqb left 0) refl
    where
      by : (b : Bool) → eqb left 0 ≡ b → P (cond b (from_attack v 0) (Delay left))
      by true q = from-attack 0
      by false q = d q

-- nothing is both true and false
pub not-both : {A : Type 0} (b : Bool) → b ≡ true → b ≡ false → A
not-both b t f = absurd (subst (λ (x : Bool). T x) (sym t ∙ f) tt)

-- neither in delay nor released
abbrev Held : Stage → Type 0
Held s = (waiting s ≡ false) × (released s ≡ false)

held-follows : (v : Voice) → Follows v Held
held-follows v = record { attack = λ t l. (refl, refl); hold = λ t. (refl, refl); decay = λ t. (refl, refl); sustain = (refl, refl) }

-- past its delay, a voice does not wait; and it is released after as before
pub enter-past : (v : Voice) (s : Stage) → past s ≡ true → (waiting (entered v s) ≡ false) × (released (entered v s) ≡ released s)
enter-past v (Delay left) e = from-delay v Held (held-follows v) left (λ q. not-both (eqb left 0) e q)
enter-past v (Attack t) e = from-attack v Held (held-follows v) t
enter-past v (Hold t) e = from-hold v Held (held-follows v) t
enter-past v (Decay t) e = from-decay v Held (held-follows v) t
enter-past v Sustain e = (refl, refl)
enter-past v (Release a t) e = (refl, refl)

-- a frame spent past the delay stays past it
spent-past : (s : Stage) → waiting s ≡ false → past (spent s) ≡ true
spent-past (Delay left) e = absurd (subst (λ (b : Bool). T b) e tt)
spent-past (Attack t) e = refl
spent-past (Hold t) e = refl
spent-past (Decay t) e = refl
spent-past Sustain e = refl
spent-past (Release a t) e = refl

-- a frame spent releases nothing
pub spent-released : (s : Stage) → released (spent s) ≡ released s
spent-released (Delay left) = refl
spent-released (Attack t) = refl
spent-released (Hold t) = refl
spent-released (Decay t) = refl
spent-released Sustain = refl
spent-released (Release a t) = refl

-- ---- one frame

-- folding and settling look at the stage only to see whether it is released, and at nothing that moves
same-settled : (v : Voice) (g s : Stage) (p q : ℕ) (m : Bool) → released s ≡ released v.stage
    → settled (with_moved v g p m) s q ≡ settled v v.stage q
unfolding settled folds
same-settled v g s p q m e = rw e

-- the slot still sounds with voice v moved to place p: only stage and place have changed, past the delay, released as before
pub record Going (v : Voice) (p : ℕ) (s : Slot) : Type 0 where
  pub stage : Stage
  pub is : s ≡ sounds (with_moved v stage p v.marked)
  pub past : past stage ≡ true
  pub same : released stage ≡ released v.stage

module _ (st : ℕ) (l : ℤ) (w : List ℤ) where
  -- moved: either it ended, or it sounds at its settled place
  go : (v : Voice) (s : Stage) (p : ℕ) → (go_on v s p).sounding ≡ true → go_on v s p ≡ sounds (moved v s (settled v s p))
  unfolding go_on
  go v s p = by (ended v s p)
    where
      by : (b : Bool) → (cond b (free v) (sounds (moved v s (settled v s p)))).sounding ≡ true
          → cond b (free v) (sounds (moved v s (settled v s p))) ≡ sounds (moved v s (settled v s p))
      by true e = absurd (subst (λ (x : Bool). T x) (sym e) tt)
      by false e = refl

  slot_of : (v : Voice) (s : Stage) → (read_and_moved st l w v s).slot ≡ go_on v s (v.place + st)
  unfolding read_and_moved
  slot_of v s = refl

  -- a living voice that does not wait and still sounds after the frame was played
  pub plays : (v : Voice) (s : Stage) → waiting s ≡ false → (living st l w v s).slot.sounding ≡ true
      → (living st l w v s).slot ≡ sounds (moved v s (settled v s (v.place + st)))
  plays v s h e = by (dead v s) refl
    where
      by : (b : Bool) → dead v s ≡ b → (living st l w v s).slot ≡ sounds (moved v s (settled v s (v.place + st)))
      by true d = not-both (living st l w v s).slot.sounding e (ap (λ (f : Framed). f.slot.sounding) (living-dead st l w v s d))
      by false d =
          let k = living-plays st l w v s d h in
          let j = ap (λ (f : Framed). f.slot) k ∙ slot_of v s in
          j ∙ go v s (v.place + st) (sym (ap (λ (x : Slot). x.sounding) j) ∙ e)

  -- one frame of a voice that goes on
  pub step-going : (v : Voice) (p : ℕ) (s : Slot) → Going v p s → (frame_at st l w s).slot.sounding ≡ true
      → Going v (settled v v.stage (p + st)) (frame_at st l w s).slot
  step-going v p s h e =
      let u = with_moved v h.stage p v.marked in
      let g = entered u h.stage in
      let f : frame_at st l w s ≡ living st l w u g = ap (frame_at st l w) h.is ∙ frame_on st l w (sounds u) refl in
      let k = enter-past u h.stage h.past in
      let r : released g ≡ released v.stage = k.1 ∙ h.same in
      let a : (living st l w u g).slot.sounding ≡ true = sym (ap (λ (x : Framed). x.slot.sounding) f) ∙ e in
      record {
        stage = spent g;
        is =
            ap (λ (x : Framed). x.slot) f ∙ plays u g k.0 a
            ∙ ap (λ (q : ℕ). sounds (with_moved v (spent g) q v.marked)) (same-settled v h.stage g p (p + st) v.marked r);
        past = spent-past g k.0;
        same = spent-released g ∙ r;
      }

  -- a slot that sounds after a frame sounded before it
  pub sounded : (s : Slot) → (frame_at st l w s).slot.sounding ≡ true → s.sounding ≡ true
  sounded s e = by s.sounding refl
    where
      by : (b : Bool) → s.sounding ≡ b → s.sounding ≡ true
      by true h = h
      by false h = not-both s.sounding (sym (ap (λ (f : Framed). f.slot.sounding) (frame-free st l w s h)) ∙ e) h

-- ---- n frames

-- the place after n frames of step st
abbrev pub place_after : ℕ → Voice → ℕ → ℕ
place_after st v zero = v.place
place_after st v (suc n) = settled v v.stage (v.place + suc n * st)

-- settling early changes nothing
pub early : (v : Voice) (x y : ℕ) → settled v v.stage (settled v v.stage x + y) ≡ settled v v.stage (x + y)
unfolding settled
early v x y = by (folds v v.stage) refl
  where
    by : (b : Bool) → folds v v.stage ≡ b → cond b (folded v (cond b (folded v x) x + y)) (cond b (folded v x) x + y) ≡ cond b (folded v (x + y)) (x + y)
    by true e =
        let h = folds-loop v v.stage e in
        fold-add (v.loopfrom * 16777216) (v.loopto * 16777216) x y (omega arith)
    by false e = refl

-- a frames, then b more, one or more
pub place-add : (st : ℕ) (v : Voice) (a b : ℕ) → settled v v.stage (place_after st v a + suc b * st) ≡ place_after st v (a + suc b)
place-add st v zero b = rw (zero-add (suc b))
place-add st v (suc a) b =
    early v (v.place + suc a * st) (suc b * st)
    ∙ ap (settled v v.stage) (sums v.place (suc a * st) (suc b * st) (suc (suc a + b) * st) (ap (λ (x : ℕ). x * st) (sym (add-suc (suc a) b)) ∙ add-mul (suc a) (suc b) st))
    ∙ ap (place_after st v) (sym (add-suc (suc a) b))
  where
    sums : (p x y z : ℕ) → z ≡ x + y → p + x + y ≡ p + z
    sums p x y z e = omega arith

-- one frame more
settle-add : (st : ℕ) (v : Voice) (n : ℕ) → settled v v.stage (place_after st v n + st) ≡ place_after st v (suc n)
settle-add st v n =
    ap (λ (x : ℕ). settled v v.stage (place_after st v n + x)) (one st) ∙ place-add st v n 0 ∙ ap (place_after st v) (add-one n)
  where
    one : (st : ℕ) → st ≡ 1 * st
    one st = omega arith

module _ (st : ℕ) (l : ℤ) (w : List ℤ) where
  -- the theorem
  pub going : (v : Voice) (n : ℕ) → past v.stage ≡ true → (after_at st l w n (sounds v)).sounding ≡ true
      → Going v (place_after st v n) (after_at st l w n (sounds v))
  unfolding after_at
  going v zero h e = record { stage = v.stage; is = refl; past = h; same = refl }
  going v (suc n) h e =
      let s = after_at st l w n (sounds v) in
      let k = going v n h (sounded st l w s e) in
      subst (λ (p : ℕ). Going v p (frame_at st l w s).slot) (settle-add st v n) (step-going st l w v (place_after st v n) s k e)

-- a free slot stays free, and as it was
pub free_stays : (st : ℕ) (l : ℤ) (w : List ℤ) (n : ℕ) (s : Slot) → s.sounding ≡ false → after_at st l w n s ≡ s
unfolding after_at
free_stays st l w n s e = rw zero-add at (stays st l w 0 s e n)
