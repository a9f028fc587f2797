-- `poured` meets its contract.
use mathlib.Core.Path.{◌≡◌}
use Prim.Native.Nat.{◌-◌, ◌≤◌, ◌<◌}
use lib.ListN.{length}
use Rattle.records.specs.Internal.Amounts.{poured}
use Rattle.records.proofs.AmountsLaws.{front}
use Rattle.records.proofs.amounts.poured.Given as goal

abbrev pub invariant-loop-n : goal.invariant-loop-n
invariant-loop-n l = (l.a ≡ poured l.b l.s (front l.from l.n) l.initial.a) × (length l.initial.a ≡ 61) × (l.from < 4294967296) × (l.count < 4294967296)
