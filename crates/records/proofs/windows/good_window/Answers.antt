-- `good_window` meets its contract.
use borrow.Author.Rules.{sfits_of}
use mathlib.Core.Bool.{Bool}
use mathlib.Core.Path.{◌≡◌, ap, ◌∙◌}
use lib.IntN.{ℤ}
use mir.Syntax.{w64}
use mir.Facts.{to_z-of_z}
use Rattle.records.specs.Windows.{loops, good_places, good_window}
use Rattle.records.proofs.windows.good_window.Goals as goal

-- places and mode replaced by equal ones
same : {a b c d w x y z : ℤ} {l m r : Bool} → r ≡ good_places a b c d l → a ≡ w → b ≡ x → c ≡ y → d ≡ z → l ≡ m → r ≡ good_places w x y z m
same e p q s t u = cc

pub returns : goal.returns
unfolding good_window
returns c = let to = c.loop_end_of-to in
    let from = c.loop_start_of-from in
    let end = c.end_of-end in
    let start = c.start_of-start in
    same c.good_places.ensures
    (to_z-of_z {w = w64} (sfits_of start.type_inv) ∙ start.ensures)
    (to_z-of_z {w = w64} (sfits_of end.type_inv) ∙ end.ensures)
    (to_z-of_z {w = w64} (sfits_of from.type_inv) ∙ from.ensures)
    (to_z-of_z {w = w64} (sfits_of to.type_inv) ∙ to.ensures)
    (c.loops.ensures ∙ ap loops c.mode_of.ensures)
