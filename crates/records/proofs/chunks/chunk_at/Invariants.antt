-- `chunk_at` meets its contract.
use Prim.Native.Nat.{◌-◌, ◌*◌, ◌≤◌}
use mathlib.Core.Path.{◌≡◌}
use Rattle.records.specs.Chunks.{chunk_at}
use Rattle.records.proofs.chunks.chunk_at.Given as goal

abbrev pub invariant-loop-n : goal.invariant-loop-n
invariant-loop-n l = (l.at ≡ chunk_at l.b l.n) × (l.at ≤ l.n * 4294967303) × (l.k ≤ 9)
