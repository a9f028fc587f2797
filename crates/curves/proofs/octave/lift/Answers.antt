-- How far x, held, stands above its lower end.
use mathlib.Core.Path.{◌≡◌, sym, ◌∙◌}
use mathlib.Core.Bool.{false}
use Prim.Native.Nat.{ℕ, ◌<◌}
use native.Mathlib.Nat.{add_comm, lt_of_le_of_lt}
use native.Mathlib.Omega.{arith}
use lib.Dec.{lit<}
use lib.IntN.{ℤ, pos, neg_ℤ, ◌+ℤ◌, ◌-ℤ◌, +ℤ_idl}
use lib.Signed.{lt_z}
use mir.Facts.{to_z-of_z}
use mir.Syntax.{w32}
use mir.Val.{to_z, of_z, SFits}
use Rattle.arith.specs.Within.{Within}
use Rattle.arith.proofs.WithinLaws.{w-nat, w-neg, w_le, w_fits, w-back}
use Rattle.curves.proofs.OctaveLaws.{up-low, up-high, up_in, lifts, lifts-le}
use Rattle.curves.proofs.octave.lift.Goals as goal

module _ (low high : ℕ) (x : ℤ) (l : low < 65536) (h : high < 65536) (f : SFits w32 x) where
  low-is : to_z w32 low ≡ pos low
  low-is = w-back w32 (w-nat {m = low} {n = 65535} (omega arith)) (lit< tt)

  high_is : to_z w32 high ≡ pos high
  high_is = w-back w32 (w-nat {m = high} {n = 65535} (omega arith)) (lit< tt)

  minus : Within (neg_ℤ (pos low)) 65535
  minus = w-neg (w-nat {m = low} {n = 65535} (omega arith))

  least : to_z w32 (of_z w32 (pos 0 -ℤ to_z w32 low)) ≡ neg_ℤ (pos low)
  least = rw (low-is, +ℤ_idl (neg_ℤ (pos low))) (w-back w32 minus (lit< tt))

  x-is : to_z w32 (of_z w32 x) ≡ x
  x-is = to_z-of_z f

  module _ (t : lt_z x (neg_ℤ (pos low)) ≡ false) (u : lt_z (pos high) x ≡ false) where
    inside : Within (x +ℤ pos low) 131070
    inside = w_le (record { within = lifts-le low high x t u }) (omega arith)

    sum_is : to_z w32 (of_z w32 (to_z w32 (of_z w32 x) +ℤ to_z w32 low)) ≡ x +ℤ pos low
    sum_is = rw (x-is, low-is) (w-back w32 inside (lit< tt))

pub returns : goal.returns
returns c =
    let a = c.args in
    let k = c.ranges in
    let t = rw (x-is a.low a.high a.x k.low.fits k.high.fits k.x, least a.low a.high a.x k.low.fits k.high.fits k.x) at c.if-x-l.false in
    let u = rw (x-is a.low a.high a.x k.low.fits k.high.fits k.x, high_is a.low a.high a.x k.low.fits k.high.fits k.x) at c.if-h-x.false in
    rw (sum_is a.low a.high a.x k.low.fits k.high.fits k.x t u) (sym (up_in a.low a.high a.x t u), lifts-le a.low a.high a.x t u)
