-- A delay's frames at once are what the definition of one frame, repeated, gives.
use Prim.Native.Nat.{ℕ, zero, suc, ◌-◌, ◌<◌, ◌≤◌}
use mathlib.Core.Path.{◌≡◌, refl, ap, ap₂, sym, ◌∙◌}
use mathlib.Core.Bool.{Bool, true, false, cond}
use mathlib.Core.List.{List, [], ◌∷◌, ◌++◌}
use native.Mathlib.Nat.{not-suc-le-zero}
use native.Mathlib.Omega.{arith}
use borrow.Author.Tests.{ne_eqb}
use lib.IntN.{ℤ, pos}
use Rattle.voice.specs.declared.Framed.{Framed}
use Rattle.voice.specs.declared.Slot.{Slot}
use Rattle.voice.specs.declared.Stage.{Stage}
use Rattle.voice.specs.declared.Stage.TheVariants.{Delay, Attack, Hold, Decay, Sustain, Release}
use Rattle.voice.specs.declared.Voice.{Voice}
use Rattle.voice.specs.Changes.{with_moved, sounds}
use Rattle.voice.specs.Frames.{silent, living, frame_at}
use Rattle.voice.specs.Stages.{entered, dead, waiting, spent, spent_by, from_delay, from_attack}
use Rattle.voice.specs.Internal.Frames.{after_at, heard_at}
use Rattle.voice.specs.Internal.Stages.{RoomBy}
use Rattle.voice.specs.Internal.Sums.{add_at, Small}
use Rattle.voice.specs.Internal.Wait.{left_in}
use Rattle.voice.proofs.FramesLaws.{frame_on, living-waits}
use Rattle.voice.proofs.StretchLaws.{entered-same, dead-same, spent-by, spent-none}
use Rattle.voice.proofs.SumsLaws.{add_nothing, add_at-none, small-none, small-two}
use Rattle.arith.proofs.WithinLaws.{w-nat}
use lib.Dec.{lit≤}

-- h is a delay that is not spent
pub record Waits (v : Voice) (h : Stage) : Type 0 where
  pub enters : entered v h ≡ h
  pub waits : waiting h ≡ true
  pub lives : dead v h ≡ false

-- the next m frames are such
abbrev pub Waiting : Voice → Stage → ℕ → Type 0
Waiting v s m = (j : ℕ) → j < m → Waits v (spent_by j s)

-- what m silent frames give
unfoldable pub silence : ℕ → List ℤ
silence zero = []
silence (suc m) = silence m ++ (pos 0 ∷ pos 0 ∷ [])

-- no frame is one of none
none : (j m : ℕ) → j < m → m ≤ 0 → ⊥
none j m h k = omega arith

-- the frames that a delay has left wait
pub left-waits : (v : Voice) (s : Stage) (m : ℕ) → m ≤ left_in s → Waiting v s m
unfolding from_delay
left-waits v (Delay n) m k j h =
    record { enters = ap (λ (b : Bool). cond b (from_attack v 0) (Delay (n - j))) (ne_eqb (n - j) 0 (λ e. omega arith)); waits = refl; lives = refl }
left-waits v (Attack t) m k j h = absurd (none j m h k)
left-waits v (Hold t) m k j h = absurd (none j m h k)
left-waits v (Decay t) m k j h = absurd (none j m h k)
left-waits v Sustain m k j h = absurd (none j m h k)
left-waits v (Release a t) m k j h = absurd (none j m h k)

-- silence adds nothing
nothing-at : (k : ℕ) (xs ys : List ℤ) → add_at k (xs ++ (pos 0 ∷ pos 0 ∷ [])) ys ≡ add_at k xs ys
unfolding add_at
nothing-at zero xs ys = add_nothing xs ys
nothing-at (suc k) xs [] = refl
nothing-at (suc k) xs (y ∷ ys) = ap (◌∷◌ y) (nothing-at k xs ys)

pub add-silence : (k m : ℕ) (ys : List ℤ) → add_at k (silence m) ys ≡ ys
unfolding silence
add-silence k zero ys = add_at-none k ys
add-silence k (suc m) ys = nothing-at k (silence m) ys ∙ add-silence k m ys

-- and is small
pub silence-small : (m : ℕ) → Small 1 (silence m)
unfolding silence
silence-small zero = small-none
silence-small (suc m) = small-two (silence m) (pos 0) (pos 0) (silence-small m) (w-nat (lit≤ tt)) (w-nat (lit≤ tt))

module _ (st : ℕ) (l : ℤ) (w : List ℤ) (v : Voice) (g : Stage) where
  -- one frame in stage h
  waited : (x h : Stage) → entered v x ≡ h → Waits v h
      → frame_at st l w (sounds (with_moved v x v.place v.marked)) ≡ silent (sounds (with_moved v (spent h) v.place v.marked))
  waited x h e c =
      let at = with_moved v x v.place v.marked in
      frame_on st l w (sounds at) refl
      ∙ ap (living st l w at) (entered-same v x v.place v.marked x ∙ e)
      ∙ living-waits st l w at h (dead-same v x v.place v.marked h ∙ c.lives) c.waits

  -- the stage before frame j
  abbrev stage_at : ℕ → Stage
  stage_at zero = v.stage
  stage_at (suc j) = spent_by (suc j) g

  -- what m frames lead to
  record Waited (m : ℕ) (s : Slot) (xs : List ℤ) : Type 0 where
    slot : s ≡ sounds (with_moved v (stage_at m) v.place v.marked)
    sums : xs ≡ silence m

  module _ (enters : entered v v.stage ≡ g) where
    stage-in : (j m : ℕ) → j < m → Waiting v g m → entered v (stage_at j) ≡ spent_by j g
    stage-in zero m h c = enters ∙ sym (spent-none g)
    stage-in (suc j) m h c = (c (suc j) h).enters

    all : (m : ℕ) → Waiting v g m → Waited m (after_at st l w m (sounds v)) (heard_at st l w m (sounds v))
    unfolding after_at heard_at silence
    all zero c = record { slot = refl; sums = refl }
    all (suc m) c =
        let i = all m (λ j h. c j (omega arith)) in
        let f : frame_at st l w (after_at st l w m (sounds v)) ≡ silent (sounds (with_moved v (spent (spent_by m g)) v.place v.marked)) =
        ap (frame_at st l w) i.slot ∙ waited (stage_at m) (spent_by m g) (stage-in m (suc m) (omega arith) c) (c m (omega arith)) in
        record {
          slot = ap (λ (y : Framed). y.slot) f ∙ ap (λ (x : Stage). sounds (with_moved v x v.place v.marked)) (spent-by m g);
          sums = ap₂ (λ (xs : List ℤ) (y : Framed). xs ++ (y.left ∷ y.right ∷ [])) i.sums f;
        }

    -- the slot after them
    pub wait_slot : (m : ℕ) → 0 < m → Waiting v g m → after_at st l w m (sounds v) ≡ sounds (with_moved v (spent_by m g) v.place v.marked)
    wait_slot zero h c = absurd (not-suc-le-zero h)
    wait_slot (suc m) h c = (all (suc m) c).slot

    -- what is heard in them
    pub wait-sums : (m : ℕ) → Waiting v g m → heard_at st l w m (sounds v) ≡ silence m
    wait-sums m c = (all m c).sums

-- so many frames leave room
pub wait-room : (s : Stage) (m : ℕ) → 0 < m → m ≤ left_in s → RoomBy m s
wait-room (Delay n) m h k = tt
wait-room (Attack t) m h k = absurd (none 0 m h k)
wait-room (Hold t) m h k = absurd (none 0 m h k)
wait-room (Decay t) m h k = absurd (none 0 m h k)
wait-room Sustain m h k = tt
wait-room (Release a t) m h k = absurd (none 0 m h k)
