-- `with_instrument` meets its contract.
use borrow.Author.Rules.{rules}
use mathlib.Core.Path.{◌≡◌, refl, sym, ◌∙◌}
use native.Mathlib.Omega.{arith}
use Rattle.bank.proofs.OnePassLaws.{zones-none, zones-next}
use Rattle.bank.proofs.rates.with_instrument.Goals as goal

pub loop-j-init : goal.loop-j-init
loop-j-init c = (sym (zones-none _ _ _ _), search rules, search rules)

pub loop-j-preserved : goal.loop-j-preserved
loop-j-preserved c = let a = c.args in
    let next = zones-next a.b.now a.m c.bag_of-from.result c.loop-j.j a.low in
    (c.with_zone-found.ensures ∙ rw c.loop-j.invariant.0 (sym next), search rules, search rules)
