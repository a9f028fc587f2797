-- `settled` meets its contract.
use Rattle.smf.specs.declared.Quantity.{Quantity}
use Rattle.std.proofs.Common.{Option}
use mathlib.Core.Path.{sym, subst, ◌∙◌}
use Rattle.smf.specs.Internal.Quantities.{value_of}
use Prim.Native.Nat.{◌<◌}
use Rattle.merge.proofs.EntriesLaws.{settled-bad, settled-good, settled-none, settled-some}
use Rattle.merge.proofs.entries.settled.Goals as goal

pub returns-in_default : goal.returns-in_default
returns-in_default c = let a = c.args in
    let q = sym c.quantity_at.ensures.0 ∙ c.in_default.is in
    let p = c.requires in
    let e = c.noted_at.ensures ∙ sym (settled-bad a.b.now a.end a.running a.at a.tick q) in
    record { value = e; settled = rw e (settled-none a.b.now a.end a.running a.at a.tick p.0 p.1 q) }

pub returns : goal.returns
returns c = let a = c.args in
    let g = c.in-Some.is in
    let q = sym c.quantity_at.ensures.0 ∙ g in
    let small = subst (λ (x : Option Quantity). value_of x < 268435456) g c.quantity_at.ensures.1 in
    let p = c.requires in
    let n = rw c.item_at-item.ensures at c.noted_at-2.ensures in
    let e = n ∙ sym (settled-good a.b.now a.end a.running a.at a.tick _ _ q) in
    record { value = e; settled = rw e (settled-some a.b.now a.end a.running a.at a.tick p.0 p.1 _ _ p.2 small q) }
