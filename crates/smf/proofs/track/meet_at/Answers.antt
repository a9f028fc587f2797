-- `meet_at` meets its contract.
use Rattle.std.proofs.Common.{Option}
use mathlib.Core.Path.{sym, subst, ◌∙◌}
use Prim.Native.Nat.{◌<◌}
use Rattle.smf.specs.declared.Quantity.{Quantity}
use Rattle.smf.specs.Internal.Quantities.{value_of}
use Rattle.smf.proofs.MeetingLaws.{meet-bad, meet-good}
use Rattle.smf.proofs.track.meet_at.Goals as goal

pub obey-requires : goal.obey-requires
obey-requires c = subst (λ (q : Option Quantity). value_of q < 268435456) c.in-Some.is c.quantity_at.ensures.1

pub returns-in_default : goal.returns-in_default
returns-in_default c = let s = c.args in
    let e = rw c.edge_of-edge.ensures at (sym c.quantity_at.ensures.0 ∙ c.in_default.is) in
    sym (meet-bad s.b.now s.c e)

pub returns : goal.returns
returns c = let s = c.args in
    let d = c.edge_of-edge.ensures in
    let e = rw d at (sym c.quantity_at.ensures.0 ∙ c.in-Some.is) in
    let i = rw d at c.item_at-item.ensures in
    c.obey.ensures ∙ (rw i (sym (meet-good s.b.now s.c _ _ e)))
