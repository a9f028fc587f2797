-- Laws of U that is held at one past the limit.
use Rattle.std.proofs.Common.{Option}
use mathlib.Core.Path.{◌≡◌, refl}
use Prim.Native.Nat.{ℕ, ◌+◌, ◌*◌, ◌-◌, ◌/◌, ◌<◌, ◌≤◌, min}
use native.Mathlib.Nat.{div-lt_iff_lt-mul, le-div_iff_mul-le}
use native.Mathlib.Omega.{arith}
use borrow.Author.Tests.{lt-ltb, le-ltb}
use Rattle.merge.specs.declared.Entry.{Entry}
use Rattle.merge.specs.declared.Hour.{Hour}
use Rattle.merge.specs.Lateness.{tempo_after, sum_at, nearer}
use Rattle.merge.specs.Internal.Order.{hour_after}

module _ (limit sum ticks tempo : ℕ) (held : sum ≤ limit + 1) (some : 0 < tempo) where
  -- more ticks than are left
  pub passes : (limit + 1 - sum) / tempo < ticks → limit + 1 ≡ min (sum + ticks * tempo) (limit + 1)
  passes h = let m = (div-lt_iff_lt-mul some).0 h in omega (arith, m)

  -- no more than are left
  pub stays : ticks ≤ (limit + 1 - sum) / tempo → sum + ticks * tempo ≤ limit + 1
  stays h = let m = (le-div_iff_mul-le some).0 h in omega (arith, m)

module _ (h : Hour) (e : Entry) (limit sum tempo : ℕ) (s : sum ≡ min (sum_at h.tick h.tempo h.sum e) (limit + 1)) (t : tempo ≡ tempo_after h.tempo e.item) where
  -- an event past the hour
  pub hour-past : (late : Option ℕ) → limit < sum → late ≡ nearer e.place h.late → record { tick = e.tick; tempo = tempo; sum = sum; late = late } ≡ hour_after h e limit
  unfolding hour_after
  hour-past late l n = let past = rw s at l in rw (s, t, n, lt-ltb _ _ past) refl

  -- an event within it
  pub hour-within : sum ≤ limit → record { tick = e.tick; tempo = tempo; sum = sum; late = h.late } ≡ hour_after h e limit
  unfolding hour_after
  hour-within l = let in-time = rw s at l in rw (s, t, le-ltb _ _ in-time) refl
