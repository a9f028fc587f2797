-- `bag_fault` meets its contract.
use borrow.Author.Rules.{rules}
use mathlib.Core.Path.{◌≡◌, sym, ap, ◌∙◌}
use native.Mathlib.Omega.{arith}
use Rattle.bank.specs.Indexes.{bad_bag, bag_fault}
use Rattle.records.specs.Looking.{placed}
use Rattle.records.proofs.LookingLaws.{first-none, first-miss0, first-hit0}
use Rattle.records.specs.Sides.{bag_at}
use Rattle.bank.proofs.indexes.bag_fault.Goals as goal

pub loop-z-init : goal.loop-z-init
loop-z-init c = first-none _ _

pub returns-then-bad_bag : goal.returns-then-bad_bag
unfolding bag_fault
returns-then-bad_bag c = let a = c.args in
    ap (placed (bag_at a.s))
    (sym (first-hit0 (bad_bag a.b.now a.s) c.loop-z.z a.s.nbags c.loop-z.invariant (sym c.bad_bag.ensures ∙ c.if-bad_bag.true) (search rules)))

pub loop-z-preserved : goal.loop-z-preserved
loop-z-preserved c = let a = c.args in
    (first-miss0 (bad_bag a.b.now a.s) c.loop-z.z c.loop-z.invariant (sym c.bad_bag.ensures ∙ c.if-bad_bag.false))

pub returns : goal.returns
unfolding bag_fault
returns c = let a = c.args in
    let e : c.loop-z.z ≡ a.s.nbags = omega arith in
    ap (placed (bag_at a.s)) (sym (rw e at c.loop-z.invariant))
