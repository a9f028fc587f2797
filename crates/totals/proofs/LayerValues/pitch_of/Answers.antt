-- `LayerValues::pitch_of` meets its contract.
use borrow.Author.Rules.{sfits_of}
use lib.Dec.{lit<}
use lib.IntN.{pos}
use mathlib.Core.Path.{refl, ap, ◌∙◌}
use mir.Facts.{to_z-of_z}
use mir.Syntax.{w32, w64}
use Rattle.arith.specs.Holds.{between}
use Rattle.arith.proofs.WithinLaws.{w-back}
use Rattle.totals.proofs.SettingsLaws.{tune-same}
use Rattle.totals.specs.Values.{total_of, held_total, instrument_only}
use Rattle.totals.specs.Settings.{pitch_of}
use Rattle.totals.proofs.LayerValues.pitch_of.Goals as goal

pub returns : goal.returns
unfolding pitch_of total_of held_total instrument_only between
returns c = let fine = c.held_at-fine.ensures in
    let coarse = c.held_at-coarse.ensures in
    let scale = c.held_at-scale.ensures in
    rw (to_z-of_z {w = w32} {z = c.tune.result} (sfits_of c.tune.type_inv))
    (rw (w-back w64 scale.1 (lit< tt), w-back w64 coarse.1 (lit< tt), w-back w64 fine.1 (lit< tt), to_z-of_z c.ranges.correction) at c.tune.ensures
    ∙ tune-same (ap pos c.key_of-k.ensures) (ap pos c.root_of-r.ensures) scale.0 coarse.0 fine.0 refl)
