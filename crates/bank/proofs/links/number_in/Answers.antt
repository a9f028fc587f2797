-- `number_in` meets its contract.
use Rattle.std.specs.Prelude.{Some}
use borrow.Author.Rules.{rules}
use mathlib.Core.Path.{◌≡◌, refl, sym, ap, ◌∙◌}
use native.Mathlib.Omega.{arith}
use Rattle.bank.specs.Links.{bad_number, zone_link_at}
use Rattle.records.proofs.LookingLaws.{first-none, first-miss, first-hit}
use Rattle.records.specs.Zones.{link_at}
use Rattle.bank.proofs.links.number_in.Goals as goal

pub loop-j-init : goal.loop-j-init
loop-j-init c = (first-none _ _, search rules, search rules)

pub returns-then-bad_number : goal.returns-then-bad_number
unfolding zone_link_at
returns-then-bad_number c = let from = c.bag_of-from in
    let count = c.zone_count-count in
    let a = c.args in
    let hit = first-hit (bad_number a.b.now a.s a.h) from.result c.loop-j.j count.result c.loop-j.invariant.0 (sym c.bad_number.ensures ∙ c.if-bad_number.true) (search rules) in
    rw (← from.ensures, ← count.ensures, hit) (ap Some (c.link_at.ensures ∙ ap (link_at a.s) c.zone_at.ensures))

pub loop-j-preserved : goal.loop-j-preserved
loop-j-preserved c = let a = c.args in (
  first-miss (bad_number a.b.now a.s a.h) c.bag_of-from.result c.loop-j.j c.loop-j.invariant.0 (sym c.bad_number.ensures ∙ c.if-bad_number.false),
  search rules,
  search rules,
)
