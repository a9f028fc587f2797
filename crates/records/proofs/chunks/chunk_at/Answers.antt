-- `chunk_at` meets its contract.
use Prim.Native.Nat.{◌+◌}
use native.Mathlib.Omega.{arith}
use mathlib.Core.Path.{◌≡◌, sym}
use borrow.Author.Rules.{rules}
use Rattle.records.specs.Chunks.{chunk_at}
use Rattle.records.proofs.ChunksLaws.{chunk-first, chunk_next}
use Rattle.records.proofs.chunks.chunk_at.Goals as goal

pub loop-n-init : goal.loop-n-init
loop-n-init c = (sym (chunk-first _), search rules, search rules)

pub loop-n-preserved : goal.loop-n-preserved
loop-n-preserved c = let b = c.args.b.now in
    let e : c.loop-n.at + 8 + c.u32_at.result ≡ chunk_at b (c.loop-n.n + 1) = cc (chunk_next b c.loop-n.n) in
    (e, omega (arith, c.u32_at.type_inv), search rules)
