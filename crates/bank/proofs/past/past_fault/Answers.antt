-- `past_fault` meets its contract.
use borrow.Author.Rules.{rules}
use mathlib.Core.Path.{◌≡◌, sym, ◌∙◌}
use native.Mathlib.Omega.{arith}
use Prim.Native.Nat.{◌-◌}
use Rattle.bank.specs.Past.{zone_past, past_fault}
use Rattle.bank.specs.Links.{zone_link_at}
use Rattle.records.proofs.LookingLaws.{placed-none}
use Rattle.records.proofs.ZonesLaws.{below_none, below_next, zone-placed, none_found}
use Rattle.bank.proofs.past.past_fault.Goals as goal

pub loop-h-init : goal.loop-h-init
loop-h-init c = below_none _ _ _

pub returns-in-Some : goal.returns-in-Some
unfolding past_fault
returns-in-Some c = let a = c.args in
    let q = c.in-Some.p in
    let found = sym c.past_in-found.ensures ∙ c.in-Some.is in
    sym (zone-placed a.b.now a.m.instruments (zone_past a.b.now a.m a.ram a.rom) (zone_link_at a.b.now a.m.instruments) c.loop-h.h q c.loop-h.invariant found (rw c.less-heads.ensures at c.loop-h-test.true))

pub loop-h-preserved : goal.loop-h-preserved
loop-h-preserved c = let a = c.args in
    let none = sym c.past_in-found.ensures ∙ c.in_default.is in
    below_next a.b.now a.m.instruments (zone_past a.b.now a.m a.ram a.rom) c.loop-h.h c.loop-h.invariant (placed-none (zone_link_at a.b.now a.m.instruments) _ none)

pub returns : goal.returns
unfolding past_fault
returns c = let a = c.args in
    let e : c.loop-h.h ≡ a.m.instruments.nheads - 1 = omega arith in
    simp (none_found a.b.now a.m.instruments (zone_past a.b.now a.m a.ram a.rom) c.loop-h.h e c.loop-h.invariant)
