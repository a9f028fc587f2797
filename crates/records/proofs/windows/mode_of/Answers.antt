-- `mode_of` meets its contract.
use borrow.Author.Rules.{sfits_of}
use lib.Dec.{lit<}
use lib.IntN.{ℤ}
use mathlib.Core.Path.{ap, ◌∙◌}
use mir.Facts.{to_z-of_z}
use mir.Syntax.{w64}
use Rattle.arith.specs.Floors.{mod_z}
use Rattle.arith.proofs.WithinLaws.{w-back}
use Rattle.records.specs.Windows.{mode_of}
use Rattle.records.proofs.windows.mode_of.Goals as goal

pub returns : goal.returns
unfolding mode_of
returns c = let x = c.wide in
    let four = rw (w-back w64 x.ensures.1 (lit< tt)) at c.mod4.ensures in
    let own = rw (to_z-of_z (sfits_of c.wide-arg-1.given)) at x.ensures.0 in
    four ∙ ap (λ (z : ℤ). mod_z z 4) own
