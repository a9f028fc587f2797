-- `quantity_at` meets its contract.
use mathlib.Core.Path.{◌≡◌}
use Prim.Native.Nat.{◌-◌, ◌^◌, ◌<◌, ◌≤◌}
use Rattle.smf.specs.Quantities.{quantity_at, quantity_from}
use Rattle.smf.proofs.quantities.quantity_at.Given as goal

-- of four bytes the rest is read, behind the bits of the first n
abbrev pub invariant-loop-n : goal.invariant-loop-n
invariant-loop-n l = (quantity_at l.b l.edge l.at ≡ quantity_from (4 - l.n) l.b l.edge l.p l.value) × (l.value < 128 ^ l.n)
