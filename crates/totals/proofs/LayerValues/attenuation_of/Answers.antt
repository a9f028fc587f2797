-- `attenuation_of` meets its contract.
use borrow.Author.Rules.{sfits_of}
use lib.Dec.{lit<}
use lib.IntN.{pos, ◌+ℤ◌}
use mathlib.Core.Path.{ap, ap₂, ◌∙◌}
use mir.Facts.{to_z-of_z}
use mir.Syntax.{w32, w64}
use Rattle.curves.specs.Levels.{cb_of}
use Rattle.arith.specs.Holds.{between}
use Rattle.arith.proofs.WithinLaws.{w-back}
use Rattle.totals.specs.Values.{total_of, held_total, instrument_only}
use Rattle.totals.specs.Settings.{attenuation_of}
use Rattle.totals.proofs.LayerValues.attenuation_of.Goals as goal

pub returns : goal.returns
unfolding attenuation_of total_of held_total instrument_only between
returns c = let sum = c.sum_at in
    let v = c.cb_of-v.ensures.0 ∙ ap cb_of c.soft_of.ensures in
    rw (to_z-of_z {w = w32} {z = c.plus.result} (sfits_of c.plus.type_inv))
    (rw (w-back w64 sum.ensures.1 (lit< tt)) at c.plus.ensures ∙ ap₂ ◌+ℤ◌ sum.ensures.0 (ap pos v))
