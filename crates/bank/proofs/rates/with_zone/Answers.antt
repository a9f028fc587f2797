-- `with_zone` meets its contract.
use mathlib.Core.Path.{refl, sym, ap, ◌∙◌}
use Rattle.records.specs.declared.Zone.{Zone}
use Rattle.bank.specs.Internal.Rates.{lower, with_zone}
use Rattle.bank.proofs.rates.with_zone.Goals as goal

pub returns-then-bad_rated : goal.returns-then-bad_rated
unfolding with_zone
returns-then-bad_rated c = let a = c.args in
    rw (sym c.bad_rated.ensures ∙ c.if-bad_rated.true) (c.lower.ensures ∙ ap (λ (zone : Zone). lower a.low zone.link) c.zone_at-zone.ensures)

pub returns : goal.returns
unfolding with_zone
returns c = rw (sym c.bad_rated.ensures ∙ c.if-bad_rated.false) refl
