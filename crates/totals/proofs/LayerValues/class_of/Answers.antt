-- `LayerValues::class_of` meets its contract.
use mathlib.Core.Path.{◌∙◌}
use mir.Facts.{to_z-of_z}
use mir.Syntax.{w16}
use mir.Val.{SFits}
use Rattle.std.proofs.Common.{rules}
use Rattle.records.specs.Internal.Amounts.{at}
use Rattle.totals.proofs.SettingsLaws.{bits-mod}
use Rattle.totals.proofs.LayerValues.class_of.Goals as goal

pub returns : goal.returns
returns c = let x : SFits w16 (at c.args.self.now.own 57) = search rules in
    c.cast_unsigned.ensures ∙ rw (to_z-of_z x) (bits-mod (at c.args.self.now.own 57) x)
