-- `shifted` meets its contract.
use mir.Val.{SFits, to_z, of_z}
use mir.Syntax.{w16, w64}
use mir.Facts.{to_z-of_z}
use lib.IntN.{ℤ, pos}
use lib.Dec.{lit<}
use mathlib.Core.Path.{◌≡◌}
use native.Mathlib.Omega.{arith}
use Rattle.records.specs.Windows.{shifted}
use Rattle.arith.proofs.WithinLaws.{w-of, w-nat, w_fits, w-back}
use Rattle.records.proofs.windows.shifted.Goals as goal

abbrev back16 : {z : ℤ} → SFits w16 z → to_z w64 (of_z w64 z) ≡ z
back16 h = w-back w64 (w-of w16 h) (lit< tt)

pub returns : goal.returns
unfolding shifted
returns c = let place : to_z w64 c.args.place ≡ pos c.args.place = w-back w64 (w-nat {m = c.args.place} {n = 4294967295} (omega arith)) (lit< tt) in
    rw (w-back w64 c.sum.ensures.1 (lit< tt))
    (rw (to_z-of_z c.ranges.fine, to_z-of_z c.ranges.coarse, back16 c.ranges.fine, back16 c.ranges.coarse, place) at c.sum.ensures.0)
