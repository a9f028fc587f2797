-- `place_moved` meets its contract.
use borrow.Author.Rules.{sfits_of}
use mathlib.Core.Path.{◌∙◌}
use mir.Facts.{to_z-of_z}
use mir.Syntax.{w64}
use Rattle.records.specs.Windows.{place_moved}
use Rattle.records.proofs.windows.place_moved.Goals as goal

pub returns : goal.returns
unfolding place_moved
returns c = let fine = c.shifted-arg-1.given in
    let coarse = c.shifted-arg-2-1.given in
    let e = rw (to_z-of_z (sfits_of fine), to_z-of_z (sfits_of coarse)) at c.shifted.ensures in
    to_z-of_z {w = w64} {z = c.shifted.result} (sfits_of c.shifted.type_inv) ∙ e ∙ simp c.place_of-place.ensures
