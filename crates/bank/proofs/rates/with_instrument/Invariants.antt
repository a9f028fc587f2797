-- `with_instrument` meets its contract.
use mathlib.Core.Path.{◌≡◌}
use Prim.Native.Nat.{◌-◌, ◌≤◌, ◌<◌}
use Rattle.bank.specs.Internal.Rates.{with_zones}
use Rattle.bank.proofs.rates.with_instrument.Given as goal

abbrev pub invariant-loop-j : goal.invariant-loop-j
invariant-loop-j l = (l.found ≡ with_zones l.b l.m l.from l.j l.initial.found) × (l.from < 65536) × (l.count < 65536)
