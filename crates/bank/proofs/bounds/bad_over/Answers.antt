-- `bad_over` meets its contract.
use mathlib.Core.Bool.{Bool, true, not, ◌&&◌}
use mathlib.Core.List.{List}
use mathlib.Core.Path.{◌≡◌, refl, sym, ap, ◌∙◌}
use lib.IntN.{ℤ}
use Rattle.records.specs.declared.Zone.{Zone}
use Rattle.records.specs.Internal.Amounts.{poured, at}
use Rattle.records.specs.Windows.{good_window}
use Rattle.bank.specs.Internal.Bounds.{bad_over}
use Rattle.bank.proofs.bounds.bad_over.Goals as goal

-- of a zone that sounds the window counts; said apart, since a rewrite would reach into the zone that is poured too
sounds : {t x y : Bool} → t ≡ true → x ≡ y → x ≡ (t && y)
sounds e f = rw e f

pub returns-then-zone : goal.returns-then-zone
unfolding bad_over
returns-then-zone c = let a = c.args in
    let e = c.zone_at-zone.ensures in
    let good = c.good_window.ensures ∙ ap (λ (v : List ℤ). good_window a.b.now a.m c.zone_at-zone.result.link (at v)) c.poured-v.ensures in
    let same = ap (λ (zone : Zone). good_window a.b.now a.m zone.link (at (poured a.b.now a.m.instruments zone a.global))) e in
    sounds (sym (ap (λ (zone : Zone). zone.sounding) e) ∙ c.if-zone.true) (ap not (good ∙ same))

pub returns : goal.returns
unfolding bad_over
returns c = rw (sym (ap (λ (zone : Zone). zone.sounding) c.zone_at-zone.ensures) ∙ c.if-zone.false) refl
