-- `word` meets its contract.
use borrow.Author.Rules.{sfits_of}
use lib.Dec.{lit<}
use lib.IntN.{pos}
use mathlib.Core.Path.{◌∙◌}
use mir.Facts.{to_z-of_z}
use mir.Syntax.{w64}
use native.Mathlib.Nat.{lt_of_le_of_lt}
use native.Mathlib.Omega.{arith}
use Rattle.arith.proofs.HoldsLaws.{held-bound}
use Rattle.arith.proofs.WithinLaws.{w-nat}
use Rattle.totals.proofs.SettingsLaws.{held-nonneg}
use Rattle.layers.proofs.ExtentLaws.{word_held}
use Rattle.layers.proofs.extent.word.Goals as goal

pub returns : goal.returns
returns c = let x = c.args.x in
    let e = to_z-of_z {w = w64} {z = c.hold.result} (sfits_of c.hold.type_inv) ∙ rw (to_z-of_z c.ranges.x) at c.hold.ensures in
    rw e (word_held x)
