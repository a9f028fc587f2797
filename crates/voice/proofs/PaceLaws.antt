-- While a stage's value is before its stop, the stage is not spent, the voice lives, and envelope and level are those of the value.
use Prim.Native.Nat.{ℕ, zero, suc, ◌+◌, ◌*◌, ◌-◌, ◌/◌, ◌<◌, ◌≤◌, min}
use mathlib.Core.Path.{◌≡◌, refl, ap, sym, ◌∙◌, subst}
use mathlib.Core.Bool.{Bool, true, false, cond}
use native.Mathlib.Omega.{arith}
use native.Mathlib.Nat.{add-mul-div_right, div-eq_of_lt, div-lt_iff_lt-mul, lt_of_mul-lt-mul_left, mul-le-mul_left, le_of_lt, not-suc-le-zero}
use borrow.Author.Tests.{lt-leb}
use lib.Dec.{eqb, leb, lit<, lit≤}
use lib.IntN.{ℤ, pos, ◌*ℤ◌, +ℤ_idr}
use Rattle.arith.proofs.FloorsLaws.{floor-add}
use Rattle.arith.specs.Floors.{floor_z}
use Rattle.voice.specs.declared.Stage.{Stage}
use Rattle.voice.specs.declared.Stage.TheVariants.{Delay, Attack, Hold, Decay, Sustain, Release}
use Rattle.voice.specs.declared.Voice.{Voice}
use Rattle.voice.specs.declared.pace.Pace.{Pace}
use Rattle.voice.specs.Sound.{shaped}
use Rattle.voice.specs.Stages.{level_at, decay_at, release_at, envelope, entered, dead, waiting, released, spent, spent_by, from_attack, from_hold, from_decay}
use Rattle.voice.specs.Internal.Pace.{whole_in, some, frames_in, spent_in, value_in, stop_if, stop_in, level_in, cb_in, Paced, PaceAt}
use Rattle.voice.specs.Internal.Stages.{RoomBy}

-- what a frame in stage s needs to know of it
pub record Lives (v : Voice) (s : Stage) : Type 0 where
  pub enters : entered v s ≡ s
  pub waits : waiting s ≡ false
  pub dies : dead v s ≡ false
  pub cb : envelope v s ≡ cb_in v s (value_in v s)
  pub level : (u : ℤ) → shaped v s u ≡ floor_z (u *ℤ pos (level_in s (value_in v s))) 16777216

-- at the full level u is u
pub full : (u : ℤ) → u ≡ floor_z (u *ℤ pos 16777216) 16777216
full u = sym (ap (λ (z : ℤ). floor_z z 16777216) (sym (+ℤ_idr (u *ℤ pos 16777216))) ∙ floor-add u (pos 0) 16777216 (lit< tt) ∙ +ℤ_idr u)

-- before its stop a stage has frames
pub has-frames : (n x y : ℕ) → x < stop_if n y → (eqb n 0 ≡ false) × (x < y)
unfolding stop_if
has-frames n x y = by (eqb n 0) refl
  where
    by : (b : Bool) → eqb n 0 ≡ b → x < cond b 0 y → (eqb n 0 ≡ false) × (x < y)
    by true e h = absurd (not-suc-le-zero h)
    by false e h = (e, h)

-- and they are its own
own : (n : ℕ) → eqb n 0 ≡ false → some n ≡ n
unfolding some
own n e = ap (λ (b : Bool). cond b 1 n) e

positive : (n : ℕ) → eqb n 0 ≡ false → 0 < n
positive zero e = absurd (subst (λ (b : Bool). cond b (Unit {0}) ⊥) e tt)
positive (suc n) e = omega arith

-- a quotient before the whole is taken before the last frame
within-frames : (whole t n : ℕ) → 0 < n → suc whole * t / n < suc whole → t < n
within-frames whole t n p h =
    let k : suc whole * t < suc whole * n = (div-lt_iff_lt-mul p).0 h in
    lt_of_mul-lt-mul_left (suc whole) k

module _ (v : Voice) where
  lives-attack : (t : ℕ) → value_in v (Attack t) < stop_in v (Attack t) → Lives v (Attack t)
  unfolding from_attack level_at
  lives-attack t h =
      let n = v.attack in
      let k = has-frames n (value_in v (Attack t)) 16777216 h in
      let o = own n k.0 in
      let below : 16777216 * t / n < 16777216 = subst (λ (m : ℕ). 16777216 * t / m < 16777216) o k.1 in
      let early : t < n = within-frames 16777215 t n (positive n k.0) below in
      record {
        enters = simp (lt-leb n t early);
        waits = refl;
        dies = refl;
        cb = refl;
        level = λ u. ap (λ (m : ℕ). floor_z (u *ℤ pos m) 16777216) (least (16777216 * t / n) below ∙ ap (λ (m : ℕ). 16777216 * t / m) (sym o));
      }
    where
      least : (x : ℕ) → x < 16777216 → min x 16777216 ≡ x
      least x h = omega arith

  lives-hold : (t : ℕ) → value_in v (Hold t) < stop_in v (Hold t) → Lives v (Hold t)
  unfolding from_hold
  lives-hold t h =
      record { enters = simp (lt-leb v.hold t (omega arith)); waits = refl; dies = refl; cb = refl; level = full }

  lives-decay : (t : ℕ) → value_in v (Decay t) < stop_in v (Decay t) → Lives v (Decay t)
  unfolding from_decay decay_at
  lives-decay t h =
      let n = v.decay in
      let z = v.sustain in
      let k = has-frames n (value_in v (Decay t)) (min z 1000) h in
      let o = own n k.0 in
      let x = value_in v (Decay t) in
      let e : cond (eqb n 0) z (min (1000 * t / n) z) ≡ x =
      ap (λ (b : Bool). cond b z (min (1000 * t / n) z)) k.0
      ∙ ap (λ (m : ℕ). min (1000 * t / m) z) (sym o)
      ∙ least x z k.1 in
      record {
        enters = ap (λ (m : ℕ). cond (leb z m) Sustain (Decay t)) e ∙ ap (λ (b : Bool). cond b Sustain (Decay t)) (lt-leb z x (first x z k.1));
        waits = refl;
        dies = ap (leb 1000) e ∙ lt-leb 1000 x (second x z k.1);
        cb = e;
        level = full;
      }
    where
      least : (x z : ℕ) → x < min z 1000 → min x z ≡ x
      least x z h = omega arith

      first : (x z : ℕ) → x < min z 1000 → x < z
      first x z h = omega arith

      second : (x z : ℕ) → x < min z 1000 → x < 1000
      second x z h = omega arith

  lives-sustain : value_in v Sustain < stop_in v Sustain → Lives v Sustain
  lives-sustain h = record { enters = refl; waits = refl; dies = lt-leb 1000 v.sustain (omega arith); cb = refl; level = full }

  lives-release : (a t : ℕ) → value_in v (Release a t) < stop_in v (Release a t) → Lives v (Release a t)
  unfolding release_at
  lives-release a t h =
      let n = v.release in
      let k = has-frames n (value_in v (Release a t)) (1000 - a) h in
      let o = own n k.0 in
      let x = value_in v (Release a t) in
      let e : cond (eqb n 0) 1000 (a + 1000 * t / n) ≡ a + x =
      ap (λ (b : Bool). cond b 1000 (a + 1000 * t / n)) k.0 ∙ ap (λ (m : ℕ). a + 1000 * t / m) (sym o) in
      record {
        enters = refl;
        waits = refl;
        dies = ap (leb 1000) e ∙ lt-leb 1000 (a + x) (below a x k.1);
        cb = e;
        level = full;
      }
    where
      below : (a x : ℕ) → x < 1000 - a → a + x < 1000
      below a x h = omega arith

  -- before its stop
  pub lives : (s : Stage) → value_in v s < stop_in v s → Lives v s
  lives (Delay left) h = absurd (not-suc-le-zero h)
  lives (Attack t) h = lives-attack t h
  lives (Hold t) h = lives-hold t h
  lives (Decay t) h = lives-decay t h
  lives Sustain h = lives-sustain h
  lives (Release a t) h = lives-release a t h

  -- the stop is that of all frames of the stage
  pub stop-same : (j : ℕ) (s : Stage) → stop_in v (spent_by j s) ≡ stop_in v s
  stop-same j (Delay left) = refl
  stop-same j (Attack t) = refl
  stop-same j (Hold t) = refl
  stop-same j (Decay t) = refl
  stop-same j Sustain = refl
  stop-same j (Release a t) = refl

  -- before it the level is at most full
  pub level_in_lem : (s : Stage) (x : ℕ) → x < stop_in v s → level_in s x ≤ 16777216
  level_in_lem (Delay left) x h = lit≤ tt
  level_in_lem (Attack t) x h = le_of_lt (has-frames v.attack x 16777216 h).1
  level_in_lem (Hold t) x h = lit≤ tt
  level_in_lem (Decay t) x h = lit≤ tt
  level_in_lem Sustain x h = lit≤ tt
  level_in_lem (Release a t) x h = lit≤ tt

  -- a last frame before the stop leaves the count of frames a 32-bit number
  pub room : (s : Stage) (m : ℕ) → v.attack < 4294967296 → v.hold < 4294967296 → v.decay < 4294967296 → v.release < 4294967296
      → value_in v (spent_by m s) < stop_in v s → RoomBy (suc m) s
  room (Delay left) m a h d r k = tt
  room (Attack t) m a h d r k =
      let f = has-frames v.attack (value_in v (Attack (t + m))) 16777216 k in
      let e : t + m < v.attack =
      within-frames 16777215 (t + m) v.attack (positive v.attack f.0) (subst (λ (n : ℕ). 16777216 * (t + m) / n < 16777216) (own v.attack f.0) f.1) in
      omega arith
  room (Hold t) m a h d r k = omega arith
  room (Decay t) m a h d r k =
      let f = has-frames v.decay (value_in v (Decay (t + m))) (min v.sustain 1000) k in
      let e : t + m < v.decay =
      within-frames 999 (t + m) v.decay (positive v.decay f.0) (subst (λ (n : ℕ). 1000 * (t + m) / n < 1000) (own v.decay f.0) (thousand _ v.sustain f.1)) in
      omega arith
    where
      thousand : (x z : ℕ) → x < min z 1000 → x < 1000
      thousand x z h = omega arith
  room Sustain m a h d r k = tt
  room (Release b t) m a h d r k =
      let f = has-frames v.release (value_in v (Release b (t + m))) (1000 - b) k in
      let e : t + m < v.release =
      within-frames 999 (t + m) v.release (positive v.release f.0) (subst (λ (n : ℕ). 1000 * (t + m) / n < 1000) (own v.release f.0) (thousand _ b f.1)) in
      omega arith
    where
      thousand : (x b : ℕ) → x < 1000 - b → x < 1000
      thousand x b h = omega arith

  -- the record of a stage is that of the stage with a frame more, once it has gone on
  pub pace-on : (s : Stage) (c : Pace) → Paced (whole_in s) (frames_in v s) (whole_in s * spent_in s + whole_in s) c → PaceAt v (spent s) c
  pace-on (Delay left) c p = p
  pace-on (Attack t) c p = subst (λ (n : ℕ). Paced 16777216 (some v.attack) n c) (omega arith) p
  pace-on (Hold t) c p = subst (λ (n : ℕ). Paced 1 1 n c) (omega arith) p
  pace-on (Decay t) c p = subst (λ (n : ℕ). Paced 1000 (some v.decay) n c) (omega arith) p
  pace-on Sustain c p = p
  pace-on (Release a t) c p = subst (λ (n : ℕ). Paced 1000 (some v.release) n c) (omega arith) p

  -- level and cB at a value are those of all frames of the stage
  pub level-same : (j x : ℕ) (s : Stage) → level_in (spent_by j s) x ≡ level_in s x
  level-same j x (Delay left) = refl
  level-same j x (Attack t) = refl
  level-same j x (Hold t) = refl
  level-same j x (Decay t) = refl
  level-same j x Sustain = refl
  level-same j x (Release a t) = refl

  pub cb-same : (j x : ℕ) (s : Stage) → cb_in v (spent_by j s) x ≡ cb_in v s x
  cb-same j x (Delay left) = refl
  cb-same j x (Attack t) = refl
  cb-same j x (Hold t) = refl
  cb-same j x (Decay t) = refl
  cb-same j x Sustain = refl
  cb-same j x (Release a t) = refl

  pub released-same : (j : ℕ) (s : Stage) → released (spent_by j s) ≡ released s
  released-same j (Delay left) = refl
  released-same j (Attack t) = refl
  released-same j (Hold t) = refl
  released-same j (Decay t) = refl
  released-same j Sustain = refl
  released-same j (Release a t) = refl

-- the record's value is the quotient
pub paced-value : (whole frames sum : ℕ) (c : Pace) → Paced whole frames sum c → c.value ≡ sum / frames
paced-value whole frames sum c p =
    sym
    (ap (λ (n : ℕ). n / frames) (sym p.value ∙ turn (c.value * c.frames) c.over)
    ∙ ap (λ (n : ℕ). (c.over + c.value * c.frames) / n) (sym p.frames)
    ∙ add-mul-div_right c.over c.value p.size.0
    ∙ ap (λ (n : ℕ). n + c.value) (div-eq_of_lt p.over)
    ∙ zero-plus c.value)
  where
    turn : (a b : ℕ) → a + b ≡ b + a
    turn a b = omega arith

    zero-plus : (q : ℕ) → 0 + q ≡ q
    zero-plus q = omega arith

-- what a frame adds to the value is at most the whole
pub by_le : (whole n sum : ℕ) (c : Pace) → Paced whole n sum c → c.by ≤ whole
by_le whole n sum c p = let h = mul-le-mul_left c.by p.size.0 in omega (arith, h, p.by)

-- which is at most 2^24
pub whole_le : (s : Stage) → whole_in s ≤ 16777216
whole_le (Delay left) = lit≤ tt
whole_le (Attack t) = lit≤ tt
whole_le (Hold t) = lit≤ tt
whole_le (Decay t) = lit≤ tt
whole_le Sustain = lit≤ tt
whole_le (Release a t) = lit≤ tt
