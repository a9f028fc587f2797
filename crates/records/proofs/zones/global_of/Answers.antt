-- `global_of` meets its contract.
use mathlib.Core.Path.{◌≡◌, ap, ◌∙◌}
use native.Mathlib.Omega.{arith}
use lib.Dec.{leb}
use mathlib.Core.Bool.{true, false}
use borrow.Author.Tests.{lt-leb, le-leb}
use Rattle.records.specs.Zones.{zone_at, global_of, zone_count}
use Rattle.records.proofs.zones.global_of.Goals as goal

pub returns-then-n-lt2 : goal.returns-then-n-lt2
unfolding global_of
returns-then-n-lt2 c = let a = c.args in
    let e : leb 2 (zone_count a.b.now a.s a.h) ≡ false = lt-leb 2 (zone_count a.b.now a.s a.h) (omega arith) in
    simp e

pub returns-then-z : goal.returns-then-z
unfolding global_of
returns-then-z c = let a = c.args in
    let e : leb 2 (zone_count a.b.now a.s a.h) ≡ true = le-leb 2 (zone_count a.b.now a.s a.h) (omega arith) in
    let z = c.zone_at-z.ensures ∙ ap (zone_at a.b.now a.s) c.bag_of.ensures in
    simp (e, rw z at c.if-z.true)

pub returns : goal.returns
unfolding global_of
returns c = let a = c.args in
    let e : leb 2 (zone_count a.b.now a.s a.h) ≡ true = le-leb 2 (zone_count a.b.now a.s a.h) (omega arith) in
    let z = c.zone_at-z.ensures ∙ ap (zone_at a.b.now a.s) c.bag_of.ensures in
    simp (e, rw z at c.if-z.false) z
