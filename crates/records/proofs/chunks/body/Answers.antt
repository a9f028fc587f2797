-- `body` meets its contract.
use Prim.Native.Nat.{ℕ, ◌+◌}
use native.Mathlib.Omega.{arith}
use mathlib.Core.Path.{ap}
use Rattle.records.proofs.ChunksLaws.{chunk-room}
use Rattle.records.specs.Chunks.{body}
use Rattle.records.proofs.chunks.body.Goals as goal

pub overflow_cast-result : goal.overflow_cast-result
overflow_cast-result c = omega (arith, chunk-room c.args.b.now c.args.k c.requires.0)

pub returns : goal.returns
unfolding body
returns c = ap (λ (x : ℕ). x + 8) c.chunk_at.ensures.0
