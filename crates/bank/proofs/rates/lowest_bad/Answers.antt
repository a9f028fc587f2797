-- `lowest_bad` meets its contract.
use borrow.Author.Rules.{rules}
use mathlib.Core.Path.{◌≡◌, sym, ◌∙◌}
use native.Mathlib.Omega.{arith}
use Prim.Native.Nat.{◌-◌}
use Rattle.bank.proofs.OnePassLaws.{lowest-none, lowest-next, lowest-is}
use Rattle.bank.proofs.rates.lowest_bad.Goals as goal

pub loop-h-init : goal.loop-h-init
loop-h-init c = sym (lowest-none _ _)

pub loop-h-preserved : goal.loop-h-preserved
loop-h-preserved c = let a = c.args in
    (c.with_instrument-low.ensures ∙ rw c.loop-h.invariant (sym (lowest-next a.b.now a.m c.loop-h.h)))

pub returns : goal.returns
returns c = let a = c.args in
    let e : c.loop-h.h ≡ a.m.instruments.nheads - 1 = omega arith in
    (rw e at c.loop-h.invariant) ∙ lowest-is a.b.now a.m
