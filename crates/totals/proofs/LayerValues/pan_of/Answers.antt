-- `pan_of` meets its contract.
use lib.Dec.{lit<}
use mir.Syntax.{w16, w64}
use Rattle.arith.specs.Holds.{between}
use Rattle.arith.proofs.WithinLaws.{w_fits, w-back}
use Rattle.totals.specs.Values.{total_of, held_total, instrument_only}
use Rattle.totals.proofs.LayerValues.pan_of.Goals as goal

pub returns : goal.returns
unfolding total_of held_total instrument_only between
returns c = rw (w-back w64 c.held_at.ensures.1 (lit< tt), w-back w16 c.held_at.ensures.1 (lit< tt)) c.held_at.ensures.0
