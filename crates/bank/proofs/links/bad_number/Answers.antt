-- `bad_number` meets its contract.
use mathlib.Core.Bool.{not}
use mathlib.Core.Path.{refl, ap}
use Prim.Native.Nat.{ℕ}
use lib.Dec.{ltb}
use Rattle.bank.specs.Links.{bad_number}
use Rattle.bank.proofs.links.bad_number.Goals as goal

pub returns-then-zone : goal.returns-then-zone
unfolding bad_number
returns-then-zone c = let zone = c.zone_at-zone.result in
    rw (← c.zone_at-zone.ensures, c.if-zone.true) (ap (λ (limit : ℕ). not (ltb zone.link limit)) c.less.ensures)

pub returns : goal.returns
unfolding bad_number
returns c = rw (← c.zone_at-zone.ensures, c.if-zone.false) refl
