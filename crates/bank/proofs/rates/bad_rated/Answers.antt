-- `bad_rated` meets its contract.
use mathlib.Core.Bool.{◌&&◌, not}
use mathlib.Core.Path.{◌≡◌, sym, ap, ◌∙◌}
use Prim.Native.Nat.{◌-◌}
use lib.Dec.{ltb}
use Rattle.arith.specs.Holds.{between}
use Rattle.records.proofs.JoinLaws.{and_yes, and_no}
use Rattle.bank.specs.Internal.Rates.{bad_rated}
use Rattle.bank.proofs.rates.bad_rated.Goals as goal
use Rattle.bank.proofs.rates.bad_rated.Goals.{then-zone, else-zone}

pub returns-then-known : goal.returns-then-known
unfolding bad_rated
returns-then-known c = let named : c.if-zone.t-12 ≡ (c.zone_at-zone.result.sounding && ltb c.zone_at-zone.result.link (c.args.m.instruments.nlinks - 1)) = let zone = c.zone_at-zone.result in
    let known = ltb zone.link (c.args.m.instruments.nlinks - 1) in
    elim c.if-zone.branch [ then-zone w ↦ and_yes zone.sounding known w.if-zone.true (rw c.less.ensures at w.t-12-is) | else-zone w ↦ and_no zone.sounding known w.if-zone.false (w.t-12-is ∙ w.if-zone.false) ] in
    let good = c.good_rate-bad.ensures ∙ ap (between 400 50000) c.rate_of.ensures in
    rw (← c.zone_at-zone.ensures, sym (named) ∙ c.if-known.true-raw) (ap not good)

pub returns-else-known : goal.returns-else-known
unfolding bad_rated
returns-else-known c = let named : c.if-zone.t-12 ≡ (c.zone_at-zone.result.sounding && ltb c.zone_at-zone.result.link (c.args.m.instruments.nlinks - 1)) = let zone = c.zone_at-zone.result in
    let known = ltb zone.link (c.args.m.instruments.nlinks - 1) in
    elim c.if-zone.branch [ then-zone w ↦ and_yes zone.sounding known w.if-zone.true (rw c.less.ensures at w.t-12-is) | else-zone w ↦ and_no zone.sounding known w.if-zone.false (w.t-12-is ∙ w.if-zone.false) ] in
    rw (← c.zone_at-zone.ensures, sym (named) ∙ c.if-known.false-raw) c.if-known.false-raw
