-- `soft_of` meets its contract.
use borrow.Author.Rules.{sfits_of}
use mir.Facts.{to_z-of_z}
use Rattle.arith.specs.Holds.{between}
use Rattle.totals.specs.Values.{total_of, held_total, instrument_only}
use Rattle.totals.specs.Settings.{softness}
use Rattle.totals.proofs.LayerValues.soft_of.Goals as goal

pub returns : goal.returns
unfolding softness total_of held_total instrument_only between
returns c = rw (to_z-of_z (sfits_of c.if_midi-arg-1.given)) at c.if_midi.ensures
