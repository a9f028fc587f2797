-- A stretch of calm frames is what the definition of one frame, repeated, gives.
use Prim.Native.Nat.{ℕ, zero, suc, ◌+◌, ◌*◌, ◌-◌, ◌/◌, ◌%◌, ◌<◌, ◌≤◌}
use mathlib.Core.Path.{◌≡◌, refl, ap, sym, ap₂, ◌∙◌, subst}
use mathlib.Core.List.{List, [], ◌∷◌, ◌++◌}
use native.Mathlib.Numerals.{add-one}
use native.Mathlib.Omega.{arith}
use lib.IntN.{ℤ, pos, ◌*ℤ◌}
use lib.ListN.{length, length-append}
use mathlib.Core.Bool.{Bool, true, false, cond}
use native.Mathlib.Nat.{add-zero, not-suc-le-zero, suc-mul, zero-mul}
use Rattle.voice.specs.Sound.{left_of, right_of, shaped, whole_loss, gained}
use Rattle.voice.specs.Internal.Sides.{share, part, left_out, right_out}
use Rattle.voice.specs.Internal.Stretch.{between, plain, plains, Clear}
use Rattle.voice.proofs.ReadingLaws.{interpolated-in, side_by_side}
use Rattle.voice.proofs.SidesLaws.{part_left, part_right}
use Rattle.arith.specs.Within.{Within}
use Rattle.arith.proofs.WithinLaws.{w-nat, w_le, w-mul, w-floor-by}
use Rattle.curves.proofs.PitchLaws.{gain-le}
use lib.Dec.{lit<, lit≤}
use Rattle.voice.specs.declared.Stage.{Stage}
use Rattle.voice.specs.declared.Stage.TheVariants.{Delay, Attack, Hold, Decay, Sustain, Release}
use Rattle.voice.specs.declared.Voice.{Voice}
use Rattle.voice.specs.Changes.{with_moved, sounds}
use Rattle.voice.specs.Stages.{envelope, entered, dead, released, from_delay, from_attack, from_hold, from_decay, spent, spent_by}
use Rattle.voice.specs.Motion.{folds, span}
use Rattle.voice.specs.Reading.{reading}
use Rattle.voice.specs.Internal.Calm.{Calm, Calms}
use Rattle.arith.specs.Floors.{floor_z}
use Rattle.curves.specs.Levels.{gain_of}
use Rattle.voice.specs.declared.Slot.{Slot}
use Rattle.voice.specs.declared.Framed.{Framed}
use Rattle.voice.proofs.MotionLaws.{fold-in}
use Rattle.voice.specs.Frames.{go_on, loud, read_and_moved, living, frame_at}
use Rattle.voice.proofs.FramesLaws.{go-fold, go-stay, frame_on, living-plays}
use Rattle.voice.specs.Internal.Frames.{after_at, heard_at}

-- a turn of the stretch's loop
module _ (gain left right : ℕ) (w : List ℤ) (st p : ℕ) where
  pub plains-turn : (m : ℕ) → plains gain left right w st p (m + 1)
      ≡ plains gain left right w st p m ++ (part (plain gain w (p + m * st)) left ∷ part (plain gain w (p + m * st)) right ∷ [])
  unfolding plains
  plains-turn m = rw add-one

  -- two numbers a frame
  pub plains-length : (m : ℕ) → length (plains gain left right w st p m) ≡ 2 * m
  unfolding plains
  plains-length zero = refl
  plains-length (suc m) = simp length-append (omega (arith, plains-length m))

-- what a voice says of a stage, it says wherever it stands
module _ (v : Voice) (x : Stage) (p : ℕ) (m : Bool) where
  -- the voice, elsewhere
  abbrev u : Voice
  u = with_moved v x p m

  pub entered-same : (s : Stage) → entered u s ≡ entered v s
  unfolding from_delay from_attack from_hold from_decay
  entered-same (Delay left) = refl
  entered-same (Attack t) = refl
  entered-same (Hold t) = refl
  entered-same (Decay t) = refl
  entered-same Sustain = refl
  entered-same (Release a t) = refl

  pub dead-same : (s : Stage) → dead u s ≡ dead v s
  dead-same (Delay left) = refl
  dead-same (Attack t) = refl
  dead-same (Hold t) = refl
  dead-same (Decay t) = refl
  dead-same Sustain = refl
  dead-same (Release a t) = refl

  pub envelope-same : (s : Stage) → envelope u s ≡ envelope v s
  envelope-same (Delay left) = refl
  envelope-same (Attack t) = refl
  envelope-same (Hold t) = refl
  envelope-same (Decay t) = refl
  envelope-same Sustain = refl
  envelope-same (Release a t) = refl

  pub shaped-same : (s : Stage) (z : ℤ) → shaped u s z ≡ shaped v s z
  shaped-same (Delay left) z = refl
  shaped-same (Attack t) z = refl
  shaped-same (Hold t) z = refl
  shaped-same (Decay t) z = refl
  shaped-same Sustain z = refl
  shaped-same (Release a t) z = refl

  pub folds-same : (g h : Stage) → released h ≡ released g → folds u h ≡ folds v g
  unfolding folds
  folds-same g h e = rw e

-- one frame more of a count
more : (t j : ℕ) → t + j + 1 ≡ t + suc j
more t j = omega arith

-- one frame fewer of a delay
less : (n j : ℕ) → n - j - 1 ≡ n - suc j
less n j = omega arith

-- one frame more, and j frames
pub spent-by : (j : ℕ) (g : Stage) → spent (spent_by j g) ≡ spent_by (suc j) g
spent-by j (Delay left) = ap Delay (less left j)
spent-by j (Attack t) = ap Attack (more t j)
spent-by j (Hold t) = ap Hold (more t j)
spent-by j (Decay t) = ap Decay (more t j)
spent-by j Sustain = refl
spent-by j (Release a t) = ap (Release a) (more t j)

-- and no frame
pub spent-none : (g : Stage) → spent_by 0 g ≡ g
spent-none (Delay left) = ap Delay (omega arith)
spent-none (Attack t) = ap Attack (add-zero t)
spent-none (Hold t) = ap Hold (add-zero t)
spent-none (Decay t) = ap Decay (add-zero t)
spent-none Sustain = refl
spent-none (Release a t) = ap (Release a) (add-zero t)

-- a plain frame is a number of a voice
plain_in : (gain : ℕ) (w : List ℤ) (p : ℕ) → gain ≤ 16777216 → Within (plain gain w p) 16777216
unfolding plain
plain_in gain w p h =
    w_le (w-floor-by 8388609 65536 (lit< tt) (lit≤ tt) (w-mul (interpolated-in _ _ _ _ _) (w-nat h))) (lit≤ tt)

module _ (st : ℕ) (l : ℤ) (w : List ℤ) (v : Voice) (g : Stage) (alive : dead v g ≡ false) where
  -- the gain, which stays
  abbrev pub gain_at : ℕ
  gain_at = gain_of (whole_loss l (envelope v g))

  -- one calm frame in stage h, at place p
  abbrev calmly : Stage → ℕ → Framed
  calmly h p =
      record {
        slot = sounds (with_moved v (spent h) (p + st) v.marked);
        left = part (plain gain_at w p) (share (left_out v.pan));
        right = part (plain gain_at w p) (share (right_out v.pan));
      }

  -- a frame with u = z, before its pan
  abbrev framed : Slot → ℤ → Framed
  framed s z = record { slot = s; left = left_of z v.pan; right = right_of z v.pan }

  module _ (x h : Stage) (p : ℕ) (c : Calm v g h) (k : Clear w v g st p) where
    -- the voice before the frame
    abbrev at : Voice
    at = with_moved v x p v.marked

    -- it folds as the stretch does
    folding : folds at h ≡ folds v g
    folding = folds-same v x p v.marked g h c.frees

    -- it is moved by its step, and neither folded nor freed
    goes : go_on at h (p + st) ≡ sounds (with_moved v (spent h) (p + st) v.marked)
    goes = by (folds v g) refl k.short
      where
        by : (f : Bool) → folds v g ≡ f → p + st < cond f v.loopto (span v) * 16777216
            → go_on at h (p + st) ≡ sounds (with_moved v (spent h) (p + st) v.marked)
        by true e z =
            go-fold at h (p + st) (folding ∙ e)
            ∙ ap (λ (q : ℕ). sounds (with_moved v (spent h) q v.marked)) (fold-in (v.loopfrom * 16777216) (v.loopto * 16777216) (p + st) z)
        by false e z = go-stay at h (p + st) (folding ∙ e) z

    -- what it reads
    reads : reading (folds at h) v.loopfrom v.loopto w p ≡ between w (p / 16777216) (p % 16777216 / 4096)
    unfolding reading
    reads =
        side_by_side (folds at h) v.loopfrom v.loopto w (p / 16777216) (p % 16777216 / 4096)
        (λ (e : folds at h ≡ true). subst (λ (f : Bool). p / 16777216 + 2 < cond f v.loopto (span v)) (sym folding ∙ e) k.before)

    -- what it gives, before its pan
    louds : loud l w at h ≡ plain gain_at w p
    unfolding loud gained plain
    louds =
        shaped-same v x p v.marked h _
        ∙ c.full _
        ∙ ap₂ (λ (z : ℤ) (a : ℕ). floor_z (z *ℤ pos (gain_of (whole_loss l a))) 65536) reads (envelope-same v x p v.marked h ∙ c.cb)

    -- the whole frame
    calm-frame : entered v x ≡ h → frame_at st l w (sounds at) ≡ calmly h p
    unfolding read_and_moved
    calm-frame e =
        let u = dead-same v x p v.marked h ∙ c.dies ∙ alive in
        frame_on st l w (sounds at) refl
        ∙ ap (living st l w at) (entered-same v x p v.marked x ∙ e)
        ∙ living-plays st l w at h u c.waits
        ∙ ap₂ (λ (s : Slot) (z : ℤ). framed s z) goes louds
        ∙ ap₂ (λ (y z : ℤ). sided y z) (sym (part_left (plain gain_at w p) v.pan inside)) (sym (part_right (plain gain_at w p) v.pan inside))
      where
        -- the frame with its sides
        sided : ℤ → ℤ → Framed
        sided y z = record { slot = sounds (with_moved v (spent h) (p + st) v.marked); left = y; right = z }

        inside : Within (plain gain_at w p) 16777216
        inside = plain_in gain_at w p (gain-le (whole_loss l (envelope v g)))

  -- the stage before frame j of the stretch
  abbrev stage_at : ℕ → Stage
  stage_at zero = v.stage
  stage_at (suc j) = spent_by (suc j) g

  -- what m frames lead to
  pub record Stretched (m : ℕ) (s : Slot) (xs : List ℤ) : Type 0 where
    pub slot : s ≡ sounds (with_moved v (stage_at m) (v.place + m * st) v.marked)
    pub sums : xs ≡ plains gain_at (share (left_out v.pan)) (share (right_out v.pan)) w st v.place m

  module _ (enters : entered v v.stage ≡ g) where
    -- each frame enters its stage of the stretch
    stage-in : (j m : ℕ) → j < m → Calms v g m → entered v (stage_at j) ≡ spent_by j g
    stage-in zero m h c = enters ∙ sym (spent-none g)
    stage-in (suc j) m h c = (c (suc j) h).enters

    -- m calm and clear frames
    pub stretched : (m : ℕ) → Calms v g m → ((j : ℕ) → j < m → Clear w v g st (v.place + j * st))
        → Stretched m (after_at st l w m (sounds v)) (heard_at st l w m (sounds v))
    unfolding after_at heard_at plains
    stretched zero c k =
        record { slot = ap (λ (p : ℕ). sounds (with_moved v v.stage p v.marked)) (here v.place); sums = refl }
      where
        here : (p : ℕ) → p ≡ p + 0 * st
        here p = omega (arith, zero-mul st)
    stretched (suc m) c k =
        let i = stretched m (λ j h. c j (omega arith)) (λ j h. k j (omega arith)) in
        let p = v.place + m * st in
        let f : frame_at st l w (after_at st l w m (sounds v)) ≡ calmly (spent_by m g) p =
        ap (frame_at st l w) i.slot
        ∙ calm-frame (stage_at m) (spent_by m g) p (c m (omega arith)) (k m (omega arith)) (stage-in m (suc m) (omega arith) c) in
        record {
          slot =
              ap (λ (y : Framed). y.slot) f
              ∙ ap₂ (λ (x : Stage) (q : ℕ). sounds (with_moved v x q v.marked)) (spent-by m g) (there v.place m);
          sums = ap₂ (λ (xs : List ℤ) (y : Framed). xs ++ (y.left ∷ y.right ∷ [])) i.sums f;
        }
      where
        there : (p m : ℕ) → p + m * st + st ≡ p + suc m * st
        there p m = omega (arith, suc-mul m st)

    -- the slot after them
    pub stretch-slot : (m : ℕ) → 0 < m → Calms v g m → ((j : ℕ) → j < m → Clear w v g st (v.place + j * st))
        → after_at st l w m (sounds v) ≡ sounds (with_moved v (spent_by m g) (v.place + m * st) v.marked)
    stretch-slot zero h c k = absurd (not-suc-le-zero h)
    stretch-slot (suc m) h c k = (stretched (suc m) c k).slot

    -- what is heard in them
    pub stretch-sums : (m : ℕ) → Calms v g m → ((j : ℕ) → j < m → Clear w v g st (v.place + j * st))
        → heard_at st l w m (sounds v) ≡ plains (gain_of (whole_loss l (envelope v g))) (share (left_out v.pan)) (share (right_out v.pan)) w st v.place m
    stretch-sums m c k = (stretched m c k).sums
