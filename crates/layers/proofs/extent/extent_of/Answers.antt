-- `extent_of` meets its contract.
use borrow.Author.Rules.{sfits_of}
use mathlib.Core.Path.{refl}
use mir.Facts.{to_z-of_z}
use mir.Syntax.{w64}
use Rattle.records.specs.Windows.{mode_of}
use Rattle.totals.proofs.SettingsLaws.{mod4-lt}
use Rattle.layers.proofs.ExtentLaws.{word-of}
use Rattle.layers.proofs.extent.extent_of.Goals as goal

pub play-requires : goal.play-requires
unfolding mode_of
play-requires c = rw c.mode_of.ensures (mod4-lt _)
