-- `sustain_of` meets its contract.
use lib.Dec.{T, lit<}
use lib.IntN.{ℤ, nat_abs, ◌+ℤ◌}
use lib.Signed.{non_neg}
use mathlib.Core.Path.{sym, ap, subst}
use mir.Syntax.{w64}
use native.Mathlib.Nat.{lt_of_le_of_lt}
use Rattle.arith.specs.Holds.{between}
use Rattle.arith.proofs.WithinLaws.{w-back}
use Rattle.totals.proofs.SettingsLaws.{held-nonneg}
use Rattle.totals.specs.Values.{total_of, held_total, instrument_only}
use Rattle.records.specs.Internal.Amounts.{at}
use Rattle.totals.proofs.LayerValues.sustain_of.Goals as goal

pub returns : goal.returns
unfolding total_of held_total instrument_only between
returns c = rw (w-back w64 c.held_at.ensures.1 (lit< tt)) (ap nat_abs c.held_at.ensures.0)
