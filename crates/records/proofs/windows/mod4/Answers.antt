-- `mod4` meets its contract.
use mir.Syntax.{w64}
use mir.Facts.{to_z-of_z}
use lib.IntN.{pos, ◌+ℤ◌}
use lib.Dec.{lit<}
use native.Mathlib.Nat.{lt_of_le_of_lt}
use Rattle.arith.proofs.FloorsLaws.{mod-lift, bias-nonneg}
use Rattle.arith.specs.Within.{Within}
use Rattle.arith.proofs.WithinLaws.{w-lit, w-add, w_fits, w-back}
use Rattle.records.proofs.windows.mod4.Goals as goal

pub returns : goal.returns
returns c = let up : Within (c.args.x +ℤ pos 32768) 65536 = w-add c.requires (w-lit (pos 32768)) in
    rw (to_z-of_z c.ranges.x, w-back w64 (up) (lit< tt)) (mod-lift c.args.x c.requires)
