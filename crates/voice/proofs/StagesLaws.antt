-- Room in a stage's count: a stage that a frame enters alive has room for one frame more, since its count is below a 32-bit number of frames.
use Prim.Native.Nat.{◌<◌, ℕ, ◌*◌, ◌/◌, suc, min, zero, ◌≤◌, ◌+◌}
use native.Mathlib.Nat.{div-lt_iff_lt-mul, min-eq_left, min-eq_right, zero-lt-suc}
use native.Mathlib.Omega.{arith}
use mathlib.Core.Path.{◌≡◌, ◌∙◌, subst, refl, sym, ap}
use lib.Dec.{eqb-suc-zero, leb, eqb}
use mathlib.Core.Logic.{⊎_elim}
use mathlib.Core.Bool.{Bool, true, false, cond}
use borrow.Author.Tests.{leb-false}
use Rattle.voice.specs.declared.Voice.{Voice}
use Rattle.voice.specs.Stages.{decay_at, release_at, from_decay, from_hold, from_attack, from_delay, entered, dead}
use Rattle.voice.proofs.MotionLaws.{split}
use Rattle.voice.specs.declared.Stage.{Stage}
use Rattle.voice.specs.declared.Stage.TheVariants.{Delay, Attack, Hold, Decay, Sustain, Release}
use Rattle.voice.specs.Internal.Stages.{RoomBy, Roomy}

-- the frames of a voice's stages are 32-bit numbers
pub record Narrow (v : Voice) : Type 0 where
  pub attack : v.attack < 4294967296
  pub hold : v.hold < 4294967296
  pub decay : v.decay < 4294967296
  pub release : v.release < 4294967296

-- floor(1,000 * t / n) below 1,000: t is below n
below : (n t : ℕ) → 0 < n → 1000 * t / n < 1000 → t < n
below n t h q = let k : 1000 * t < 1000 * n = (div-lt_iff_lt-mul h).0 q in omega arith

-- a decay of one frame or more
decay-suc : (m z t : ℕ) → decay_at (suc m) z t ≡ min (1000 * t / suc m) z
unfolding decay_at
decay-suc m z t = simp (eqb-suc-zero m)

-- in a decay that is neither spent nor dead the count has room
decay-count : (n z t : ℕ) → n < 4294967296 → decay_at n z t < z → decay_at n z t < 1000 → t + 1 < 4294967296
unfolding decay_at
decay-count zero z t h a b = omega arith
decay-count (suc m) z t h a b =
    let q = 1000 * t / suc m in
    ⊎_elim
    (λ (l : q < z).
    let e : decay_at (suc m) z t ≡ q = decay-suc m z t ∙ min-eq_left (omega arith) in
    let k = below (suc m) t (zero-lt-suc m) (subst (λ (x : ℕ). x < 1000) e b) in
    omega arith)
    (λ (g : z ≤ q).
    let e : decay_at (suc m) z t ≡ z = decay-suc m z t ∙ min-eq_right g in
    let k : z < z = subst (λ (x : ℕ). x < z) e a in
    omega arith)
    (split q z)

-- a release of one frame or more
release-suc : (m a t : ℕ) → release_at (suc m) a t ≡ a + 1000 * t / suc m
unfolding release_at
release-suc m a t = simp (eqb-suc-zero m)

-- in a release that is not dead the count has room
release-count : (n a t : ℕ) → n < 4294967296 → release_at n a t < 1000 → t + 1 < 4294967296
unfolding release_at
release-count zero a t h b = omega arith
release-count (suc m) a t h b =
    let q = subst (λ (x : ℕ). x < 1000) (release-suc m a t) b in
    let k = below (suc m) t (zero-lt-suc m) (omega arith) in
    omega arith

module _ (v : Voice) (h : Narrow v) where
  -- alive in decay or what follows, it has room
  in-decay : (t : ℕ) → dead v (from_decay v t) ≡ false → RoomBy 1 (from_decay v t)
  unfolding from_decay
  in-decay t = by (leb v.sustain (decay_at v.decay v.sustain t)) refl
    where
      by : (b : Bool) → leb v.sustain (decay_at v.decay v.sustain t) ≡ b
          → dead v (cond b Sustain (Decay t)) ≡ false → RoomBy 1 (cond b Sustain (Decay t))
      by true e d = tt
      by false e d = decay-count v.decay v.sustain t h.decay (leb-false _ _ e) (leb-false _ _ d)

  -- in hold or what follows
  in-hold : (t : ℕ) → dead v (from_hold v t) ≡ false → RoomBy 1 (from_hold v t)
  unfolding from_hold
  in-hold t = by (leb v.hold t) refl
    where
      by : (b : Bool) → leb v.hold t ≡ b → dead v (cond b (from_decay v 0) (Hold t)) ≡ false → RoomBy 1 (cond b (from_decay v 0) (Hold t))
      by true e d = in-decay 0 d
      by false e d = omega (arith, leb-false v.hold t e, h.hold)

  -- in attack or what follows
  in-attack : (t : ℕ) → dead v (from_attack v t) ≡ false → RoomBy 1 (from_attack v t)
  unfolding from_attack
  in-attack t = by (leb v.attack t) refl
    where
      by : (b : Bool) → leb v.attack t ≡ b → dead v (cond b (from_hold v 0) (Attack t)) ≡ false → RoomBy 1 (cond b (from_hold v 0) (Attack t))
      by true e d = in-hold 0 d
      by false e d = omega (arith, leb-false v.attack t e, h.attack)

  -- in delay or what follows
  in-delay : (left : ℕ) → dead v (from_delay v left) ≡ false → RoomBy 1 (from_delay v left)
  unfolding from_delay
  in-delay left = by (eqb left 0)
    where
      by : (b : Bool) → dead v (cond b (from_attack v 0) (Delay left)) ≡ false → RoomBy 1 (cond b (from_attack v 0) (Delay left))
      by true d = in-attack 0 d
      by false d = tt

  -- alive in the stage that it enters, whichever it was in
  pub alive-room : (s : Stage) → dead v (entered v s) ≡ false → RoomBy 1 (entered v s)
  alive-room (Delay left) d = in-delay left d
  alive-room (Attack t) d = in-attack t d
  alive-room (Hold t) d = in-hold t d
  alive-room (Decay t) d = in-decay t d
  alive-room Sustain d = tt
  alive-room (Release a t) d = release-count v.release a t h.release (leb-false _ _ d)

-- the same, as the contract of `enter` says it
pub entered-roomy : (v : Voice) → Narrow v → (s r : Stage) → r ≡ entered v s → (r ≡ entered v s) × Roomy v r
entered-roomy v h s r e = (e, λ d. subst (RoomBy 1) (sym e) (alive-room v h s (sym (ap (dead v) e) ∙ d)))

-- fewer frames need no more room
pub room-le : (g : Stage) (m n : ℕ) → n ≤ m → RoomBy m g → RoomBy n g
room-le (Delay left) m n h r = tt
room-le (Attack t) m n h r = omega arith
room-le (Hold t) m n h r = omega arith
room-le (Decay t) m n h r = omega arith
room-le Sustain m n h r = tt
room-le (Release a t) m n h r = omega arith
