-- `window_in` meets its contract.
use Rattle.std.specs.Prelude.{Some}
use borrow.Author.Rules.{rules}
use mathlib.Core.Path.{◌≡◌, refl, sym, ap, ◌∙◌}
use native.Mathlib.Omega.{arith}
use Prim.Native.Nat.{◌+◌}
use Rattle.bank.specs.Bounds.{bad_window}
use Rattle.bank.specs.Links.{zone_link_at}
use Rattle.records.proofs.LookingLaws.{first-none, first-miss, first-hit}
use Rattle.records.specs.Zones.{link_at}
use Rattle.bank.proofs.OnePassLaws.{bad-over}
use Rattle.bank.proofs.bounds.window_in.Goals as goal

pub loop-j-init : goal.loop-j-init
loop-j-init c = (first-none _ _, c.poured-global.ensures ∙ rw c.global_of.ensures refl, search rules, search rules)

pub returns-then-bad_over : goal.returns-then-bad_over
unfolding zone_link_at
returns-then-bad_over c = let from = c.bag_of-from in
    let count = c.zone_count-count in
    let a = c.args in
    let bad = sym (bad-over a.b.now a.m a.h (from.result + c.loop-j.j)) ∙ rw (← c.loop-j.invariant.1) (sym c.bad_over.ensures) ∙ c.if-bad_over.true in
    let hit = first-hit (bad_window a.b.now a.m a.h) from.result c.loop-j.j count.result c.loop-j.invariant.0 bad (search rules) in
    rw (← from.ensures, ← count.ensures, hit) (ap Some (c.link_at.ensures ∙ ap (link_at a.m.instruments) c.zone_at.ensures))

pub loop-j-preserved : goal.loop-j-preserved
loop-j-preserved c = let from = c.bag_of-from in
    let a = c.args in
    let good = sym (bad-over a.b.now a.m a.h (from.result + c.loop-j.j)) ∙ rw (← c.loop-j.invariant.1) (sym c.bad_over.ensures) ∙ c.if-bad_over.false in (
      first-miss (bad_window a.b.now a.m a.h) from.result c.loop-j.j c.loop-j.invariant.0 good,
      c.loop-j.invariant.1,
      search rules,
      search rules,
    )
