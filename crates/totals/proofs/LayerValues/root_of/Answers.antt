-- `root_of` meets its contract.
use borrow.Author.Rules.{sfits_of}
use borrow.Author.Tests.{le-leb, lt-leb}
use mathlib.Core.Bool.{cond}
use mathlib.Core.Path.{◌≡◌, refl, ap, ◌∙◌}
use mir.Facts.{to_z-of_z}
use Prim.Native.Nat.{ℕ}
use lib.Dec.{leb}
use native.Mathlib.Omega.{arith}
use Rattle.arith.specs.Holds.{between}
use Rattle.totals.specs.Values.{total_of, held_total, instrument_only}
use Rattle.records.specs.Internal.Amounts.{at}
use Rattle.totals.specs.Settings.{root_of, if_midi}
use Rattle.totals.proofs.LayerValues.root_of.Goals as goal
use Rattle.totals.proofs.LayerValues.root_of.Goals.{then-header-le127, else-header-le127}

pub returns : goal.returns
unfolding root_of total_of held_total instrument_only between
returns c = let header = c.args.header in
    let other : c.if-header-le127.other ≡ cond (leb header 127) header 60 =
    elim c.if-header-le127.branch [ then-header-le127 w ↦ w.other-is ∙ rw (le-leb header 127 w.if-header-le127.true) refl | else-header-le127 w ↦ w.other-is ∙ rw (lt-leb header 127 (omega (arith, w.if-header-le127.false))) refl ] in
    rw (to_z-of_z (sfits_of c.if_midi-arg-1.given)) at c.if_midi.ensures
    ∙ ap (λ (n : ℕ). if_midi 0 (at c.args.self.now.own 58) n) other
