-- Rounds are what the definition of one frame, repeated, gives.
use Prim.Native.Nat.{ℕ, zero, suc, ◌+◌, ◌*◌, ◌<◌, ◌≤◌}
use mathlib.Core.Path.{◌≡◌, refl, ap, ap₂, sym, ◌∙◌, subst}
use mathlib.Core.Bool.{Bool, cond, not, ◌&&◌}
use mathlib.Core.List.{List, [], ◌∷◌, ◌++◌}
use native.Mathlib.Numerals.{add-one}
use native.Mathlib.Nat.{not-suc-le-zero}
use native.Mathlib.Omega.{arith}
use lib.Dec.{lit<, lit≤, leb}
use lib.IntN.{ℤ, pos, ◌*ℤ◌}
use lib.ListN.{length, length-append}
use Rattle.arith.specs.Floors.{floor_z}
use Rattle.arith.specs.Within.{Within}
use Rattle.arith.proofs.WithinLaws.{w-nat, w_le, w-mul, w-floor-by}
use Rattle.curves.specs.Levels.{gain_of}
use Rattle.curves.proofs.PitchLaws.{gain-le}
use Rattle.voice.specs.declared.Framed.{Framed}
use Rattle.voice.specs.declared.Slot.{Slot}
use Rattle.voice.specs.declared.Stage.{Stage}
use Rattle.voice.specs.declared.Voice.{Voice}
use Rattle.voice.specs.declared.way.Way.{Way}
use Rattle.voice.specs.Changes.{with_moved, sounds, free}
use Rattle.voice.specs.Frames.{go_on, loud, read_and_moved, living, frame_at}
use Rattle.voice.specs.Motion.{folds, folded, span, settled, ended}
use Rattle.voice.specs.Reading.{reading}
use Rattle.voice.specs.Sound.{left_of, right_of, whole_loss, gained}
use Rattle.voice.specs.Stages.{entered, spent, spent_by}
use Rattle.voice.specs.Internal.Frames.{after_at, heard_at}
use Rattle.voice.specs.Internal.Pace.{value_in, stop_in, level_in, cb_in}
use Rattle.voice.specs.Internal.Rounds.{rung, rung_in, rings}
use Rattle.voice.specs.Internal.Sides.{share, part, left_out, right_out}
use Rattle.voice.specs.Internal.Way.{next_place, place_on, OnWay}
use Rattle.voice.proofs.FramesLaws.{frame_on, living-plays}
use Rattle.voice.proofs.PaceLaws.{Lives, lives, stop-same, level_in_lem, level-same, cb-same, released-same}
use Rattle.voice.proofs.ReadingLaws.{reading-in}
use Rattle.voice.proofs.SidesLaws.{part_left, part_right}
use Rattle.voice.proofs.StretchLaws.{entered-same, dead-same, envelope-same, shaped-same, folds-same, spent-by, spent-none}
use Rattle.voice.proofs.WayLaws.{keeps_on}

module _ (l : ℤ) (left right : ℕ) (w : List ℤ) (v : Voice) (s : Stage) (y : Way) where
  -- a turn of the loop
  pub rings-turn : (m : ℕ) → rings l left right w v s y (m + 1)
      ≡ rings l left right w v s y m ++ (part (rung_in l w v s y m) left ∷ part (rung_in l w v s y m) right ∷ [])
  unfolding rings
  rings-turn m = rw add-one

  -- two numbers a frame
  pub rings-length : (m : ℕ) → length (rings l left right w v s y m) ≡ 2 * m
  unfolding rings
  rings-length zero = refl
  rings-length (suc m) = simp length-append (omega (arith, rings-length m))

-- a frame of a round is a number of a voice
rung-in : (gain : ℕ) (w : List ℤ) (v : Voice) (s : Stage) (p x : ℕ) → gain ≤ 16777216 → level_in s x ≤ 16777216 → Within (rung gain w v s p x) 16777216
unfolding rung
rung-in gain w v s p x h k =
    w_le (w-floor-by 8388610 16777216 (lit< tt) (lit≤ tt) (w-mul (w-floor-by 8388609 65536 (lit< tt) (lit≤ tt) (w-mul (reading-in (folds v s) v.loopfrom v.loopto w p) (w-nat h))) (w-nat k))) (lit≤ tt)

module _ (st : ℕ) (l : ℤ) (w : List ℤ) (v : Voice) (g : Stage) (y : Way) (on : OnWay v g st y) where
  -- one frame j of the rounds, at place p
  abbrev u : ℕ → ℕ → ℤ
  u j p = rung (gain_of (whole_loss l (cb_in v g (value_in v (spent_by j g))))) w v g p (value_in v (spent_by j g))

  abbrev rounded : ℕ → ℕ → Framed
  rounded j p =
      record {
        slot = sounds (with_moved v (spent (spent_by j g)) (next_place y p) v.marked);
        left = part (u j p) (share (left_out v.pan));
        right = part (u j p) (share (right_out v.pan));
      }

  -- a frame with u = z, before its pan
  abbrev framed : Slot → ℤ → Framed
  framed s z = record { slot = s; left = left_of z v.pan; right = right_of z v.pan }

  module _ (x : Stage) (j p : ℕ) (from : y.from ≤ p) (before : p < y.limit) (value : value_in v (spent_by j g) < stop_in v g) where
    -- the voice before the frame, and its stage
    abbrev at : Voice
    at = with_moved v x p v.marked

    abbrev h : Stage
    h = spent_by j g

    c : Lives v h
    c = lives v h (subst (λ (n : ℕ). value_in v h < n) (sym (stop-same v j g)) value)

    -- it folds as the rounds do
    folding : folds at h ≡ folds v g
    folding = folds-same v x p v.marked g h (released-same v j g)

    -- it ends and settles as the rounds do
    ends : ended at h (p + st) ≡ ended v g (p + st)
    unfolding ended
    ends = ap (λ (b : Bool). not b && leb (span v * 16777216) (p + st)) folding

    settles : settled at h (p + st) ≡ settled v g (p + st)
    unfolding settled
    settles = ap (λ (b : Bool). cond b (folded v (p + st)) (p + st)) folding

    -- it goes on by the way
    goes : go_on at h (p + st) ≡ sounds (with_moved v (spent h) (next_place y p) v.marked)
    unfolding go_on
    goes =
        let k = on p from before in
        ap₂ (λ (b : Bool) (q : ℕ). cond b (free at) (sounds (with_moved v (spent h) q v.marked))) (ends ∙ k.stays) (settles ∙ k.goes)

    -- what it gives, before its pan
    louds : loud l w at h ≡ u j p
    unfolding loud gained rung
    louds =
        shaped-same v x p v.marked h _
        ∙ c.level _
        ∙ ap₂ (λ (z : ℤ) (n : ℕ). floor_z (z *ℤ pos n) 16777216)
        (ap₂ (λ (b : Bool) (a : ℕ). floor_z (reading b v.loopfrom v.loopto w p *ℤ pos (gain_of (whole_loss l a))) 65536) folding
        (envelope-same v x p v.marked h ∙ c.cb ∙ cb-same v j (value_in v h) g))
        (level-same v j (value_in v h) g)

    -- it is a number of a voice
    inside : Within (u j p) 16777216
    inside = rung-in _ w v g p (value_in v h) (gain-le (whole_loss l (cb_in v g (value_in v h)))) (level_in_lem v g (value_in v h) value)

    -- the frame with its sides
    abbrev sided : ℤ → ℤ → Framed
    sided a b = record { slot = sounds (with_moved v (spent h) (next_place y p) v.marked); left = a; right = b }

    -- the whole frame
    round-frame : entered v x ≡ h → frame_at st l w (sounds at) ≡ rounded j p
    unfolding read_and_moved
    round-frame e =
        frame_on st l w (sounds at) refl
        ∙ ap (living st l w at) (entered-same v x p v.marked x ∙ e)
        ∙ living-plays st l w at h (dead-same v x p v.marked h ∙ c.dies) c.waits
        ∙ ap₂ (λ (s : Slot) (z : ℤ). framed s z) goes louds
        ∙ ap₂ (λ (a b : ℤ). sided a b) (sym (part_left (u j p) v.pan inside)) (sym (part_right (u j p) v.pan inside))

  -- the stage before frame j
  abbrev stage_at : ℕ → Stage
  stage_at zero = v.stage
  stage_at (suc j) = spent_by (suc j) g

  -- frames that may go so
  abbrev pub Rounded : ℕ → Type 0
  Rounded m = (j : ℕ) → j < m → (place_on y v.place j < y.limit) × (value_in v (spent_by j g) < stop_in v g)

  -- what m frames lead to
  pub record Went (m : ℕ) (s : Slot) (xs : List ℤ) : Type 0 where
    pub slot : s ≡ sounds (with_moved v (stage_at m) (place_on y v.place m) v.marked)
    pub sums : xs ≡ rings l (share (left_out v.pan)) (share (right_out v.pan)) w v g y m

  module _ (enters : entered v v.stage ≡ g) (begins : y.from ≤ v.place) where
    -- each frame enters its stage
    stage-in : (j m : ℕ) → j < m → Rounded m → entered v (stage_at j) ≡ spent_by j g
    stage-in zero m h r = enters ∙ sym (spent-none g)
    stage-in (suc j) m h r =
        (lives v (spent_by (suc j) g) (subst (λ (n : ℕ). value_in v (spent_by (suc j) g) < n) (sym (stop-same v (suc j) g)) (r (suc j) h).1)).enters

    went : (m : ℕ) → Rounded m → Went m (after_at st l w m (sounds v)) (heard_at st l w m (sounds v))
    unfolding after_at heard_at rings place_on
    went zero r = record { slot = refl; sums = refl }
    went (suc m) r =
        let i = went m (λ j h. r j (omega arith)) in
        let p = place_on y v.place m in
        let f : frame_at st l w (after_at st l w m (sounds v)) ≡ rounded m p =
        ap (frame_at st l w) i.slot
        ∙ round-frame (stage_at m) m p (keeps_on v g st y v.place on begins m (λ j h. (r j (omega arith)).0)) (r m (omega arith)).0 (r m (omega arith)).1 (stage-in m (suc m) (omega arith) r) in
        record {
          slot = ap (λ (z : Framed). z.slot) f ∙ ap (λ (x : Stage). sounds (with_moved v x (next_place y p) v.marked)) (spent-by m g);
          sums = ap₂ (λ (xs : List ℤ) (z : Framed). xs ++ (z.left ∷ z.right ∷ [])) i.sums f;
        }

    -- the slot after them
    pub rounds-slot : (m : ℕ) → 0 < m → Rounded m
        → after_at st l w m (sounds v) ≡ sounds (with_moved v (spent_by m g) (place_on y v.place m) v.marked)
    rounds-slot zero h r = absurd (not-suc-le-zero h)
    rounds-slot (suc m) h r = (went (suc m) r).slot

    -- what is heard in them
    pub rounds-sums : (m : ℕ) → Rounded m
        → heard_at st l w m (sounds v) ≡ rings l (share (left_out v.pan)) (share (right_out v.pan)) w v g y m
    rounds-sums m r = (went m r).sums
