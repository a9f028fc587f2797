-- `arith::bytes::signed16` meets its contract.
use borrow.Author.Tests.{le-ltb}
use mathlib.Core.Bool.{Bool}
use mathlib.Core.Path.{◌≡◌, sym, ap}
use Prim.Native.Nat.{ℕ, suc, ◌-◌, ◌≤◌, ◌<◌}
use native.Mathlib.Omega.{arith}
use lib.Dec.{lit<}
use lib.IntN.{pos, negsuc, ◌-ℤ◌}
use mir.Facts.{to_z-of_z}
use mir.Syntax.{w16, w32}
use mir.Val.{SFits, to_z, sel}
use Rattle.arith.proofs.FloorsLaws.{sub-neg}
use Rattle.arith.proofs.WithinLaws.{w-nat, w-back}
use Rattle.arith.proofs.bytes.signed16.Goals as goal

-- v - 65536, for a v of the upper half
module _ (v : ℕ) (lo : 32768 ≤ v) (hi : v < 65536) where
  minus : pos v -ℤ pos 65536 ≡ negsuc (65536 - suc v)
  minus = sub-neg v 65536 hi

  fits16 : SFits w16 (negsuc (65536 - suc v))
  fits16 = record { sfits = omega arith }

  fits32 : SFits w32 (negsuc (65536 - suc v))
  fits32 = record { sfits = omega arith }

  reads : to_z w16 v ≡ negsuc (65536 - suc v)
  reads = ap (λ (t : Bool). sel t (pos v) (negsuc (65536 - suc v))) (le-ltb v 32768 lo)

  wide : to_z w32 v ≡ pos v
  wide = w-back w32 (w-nat {m = v} {n = 65536} (omega arith)) (lit< tt)

pub overflow_sub-result : goal.overflow_sub-result
overflow_sub-result c = let v = c.args.v in let lo = c.if-v-lt32768.false in let hi = c.ranges.v.fits in
    rw (wide v lo hi, minus v lo hi) (fits32 v lo hi)

pub overflow_cast-result-else-v-lt32768-2 : goal.overflow_cast-result-else-v-lt32768-2
overflow_cast-result-else-v-lt32768-2 c = let v = c.args.v in let lo = c.if-v-lt32768.false in let hi = c.ranges.v.fits in
    rw (wide v lo hi, minus v lo hi, to_z-of_z (fits32 v lo hi)) (fits16 v lo hi)

pub returns-else-v-lt32768 : goal.returns-else-v-lt32768
returns-else-v-lt32768 c = let v = c.args.v in let lo = c.if-v-lt32768.false in let hi = c.ranges.v.fits in
    rw (wide v lo hi, minus v lo hi, to_z-of_z (fits32 v lo hi), to_z-of_z (fits16 v lo hi)) (sym (reads v lo hi))
