-- Which frames are calm: a hold to its end, a sustain, a decay and a release while their cB stays.
use Prim.Native.Nat.{ℕ, ◌+◌, ◌*◌, ◌/◌, ◌%◌, ◌<◌, ◌-◌, min, ◌≤◌}
use mathlib.Core.Path.{◌≡◌, ap, ◌∙◌, refl, subst}
use native.Mathlib.Nat.{div-add-mod', add-mul-div_right, div-eq_of_lt, mod-lt, not-suc-le-zero}
use native.Mathlib.Omega.{arith}
use mathlib.Core.Bool.{cond, Bool}
use lib.Dec.{eqb, leb}
use borrow.Author.Tests.{lt-leb}
use Rattle.voice.specs.Internal.Calm.{Steady, Calms}
use Rattle.voice.specs.Stages.{decay_at, release_at, from_hold, from_decay}
use Rattle.voice.specs.declared.Stage.{Stage}
use Rattle.voice.specs.declared.Stage.TheVariants.{Hold, Decay, Sustain, Release}
use Rattle.voice.specs.declared.Voice.{Voice}

-- floor(1,000 * t / n) stays while the remainder does not reach n
pub same-quotient : (n t j : ℕ) → 0 < n → 1000 * t % n + 1000 * j < n → 1000 * (t + j) / n ≡ 1000 * t / n
same-quotient n t j h k =
    let q = 1000 * t / n in
    let r = 1000 * t % n in
    let e : 1000 * (t + j) ≡ r + 1000 * j + q * n = omega (arith, div-add-mod' (1000 * t) n) in
    ap (λ (x : ℕ). x / n) e ∙ add-mul-div_right (r + 1000 * j) q h ∙ ap (λ (x : ℕ). x + q) (div-eq_of_lt k) ∙ zero-plus q
  where
    zero-plus : (q : ℕ) → 0 + q ≡ q
    zero-plus q = omega arith

-- the frames until it changes are steady
pub until-steady : (n t : ℕ) → 0 < n → Steady n t ((n - 1000 * t % n + 999) / 1000)
until-steady n t h j k = same-quotient n t j h (omega (arith, mod-lt (1000 * t) h))

-- then the decay's cB stays
pub decay-same : (n z t j : ℕ) → 1000 * (t + j) / n ≡ 1000 * t / n → decay_at n z (t + j) ≡ decay_at n z t
unfolding decay_at
decay-same n z t j e = ap (λ (q : ℕ). cond (eqb n 0) z (min q z)) e

-- and the release's
pub release-same : (n a t j : ℕ) → 1000 * (t + j) / n ≡ 1000 * t / n → release_at n a (t + j) ≡ release_at n a t
unfolding release_at
release-same n a t j e = ap (λ (q : ℕ). cond (eqb n 0) 1000 (a + q)) e

module _ (v : Voice) where
  -- no frames are calm, whatever the stage
  pub none-calm : (g : Stage) (m : ℕ) → m ≡ 0 → Calms v g m
  none-calm g m e j k = absurd (not-suc-le-zero (subst (λ (x : ℕ). j < x) e k))

  -- a hold, to its end
  pub hold-calm : (t m : ℕ) → (0 < m → t + m ≤ v.hold) → Calms v (Hold t) m
  unfolding from_hold
  hold-calm t m h j k =
      record {
        enters = simp (lt-leb v.hold (t + j) (omega (arith, h (omega arith))));
        waits = refl;
        dies = refl;
        frees = refl;
        cb = refl;
        full = λ u. refl;
      }

  -- a sustain, always
  pub sustain-calm : (m : ℕ) → Calms v Sustain m
  sustain-calm m j k = record { enters = refl; waits = refl; dies = refl; frees = refl; cb = refl; full = λ u. refl }

  -- a decay that is not spent, while its cB stays
  pub decay-calm : (t m : ℕ) → (0 < m → decay_at v.decay v.sustain t < v.sustain) → Steady v.decay t m → Calms v (Decay t) m
  unfolding from_decay
  decay-calm t m h s j k =
      let e = decay-same v.decay v.sustain t j (s j k) in
      record {
        enters =
            ap (λ (x : ℕ). cond (leb v.sustain x) Sustain (Decay (t + j))) e
            ∙ ap (λ (b : Bool). cond b Sustain (Decay (t + j))) (lt-leb v.sustain (decay_at v.decay v.sustain t) (h (omega arith)));
        waits = refl;
        dies = ap (leb 1000) e;
        frees = refl;
        cb = e;
        full = λ u. refl;
      }

  -- a release, while its cB stays
  pub release-calm : (a t m : ℕ) → Steady v.release t m → Calms v (Release a t) m
  release-calm a t m s j k =
      let e = release-same v.release a t j (s j k) in
      record { enters = refl; waits = refl; dies = ap (leb 1000) e; frees = refl; cb = e; full = λ u. refl }
