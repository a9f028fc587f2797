-- `chunk_fault` meets its contract.
use Rattle.std.specs.Prelude.{Some}
use lib.ListN.{length}
use borrow.Author.Tests.{lt-ltb, le-ltb}
use native.Mathlib.Omega.{arith}
use mathlib.Core.Path.{◌≡◌, sym, ap, ◌∙◌}
use borrow.Author.Rules.{rules}
use Rattle.records.proofs.LookingLaws.{first-none, first-miss0, first-hit0}
use Rattle.records.specs.Chunks.{chunk_at}
use Rattle.bank.specs.Framing.{bad_chunk, chunk_fault}
use Rattle.bank.proofs.framing.chunk_fault.Goals as goal

pub loop-k-init : goal.loop-k-init
loop-k-init c = first-none _ _

pub returns-then-bad_chunk : goal.returns-then-bad_chunk
unfolding chunk_fault
returns-then-bad_chunk c = let b = c.args.b.now in
    let e = first-hit0 (bad_chunk b) c.loop-k.k 9 c.loop-k.invariant (sym c.bad_chunk.ensures ∙ c.if-bad_chunk.true) (search rules) in
    simp e (ap Some c.chunk_at.ensures.0)

pub loop-k-preserved : goal.loop-k-preserved
loop-k-preserved c = let b = c.args.b.now in
    (first-miss0 (bad_chunk b) c.loop-k.k c.loop-k.invariant (sym c.bad_chunk.ensures ∙ c.if-bad_chunk.false))

pub returns-then-end-b : goal.returns-then-end-b
unfolding chunk_fault
returns-then-end-b c = let b = c.args.b.now in
    let k : c.loop-k.k ≡ 9 = omega arith in
    let e = rw k at c.loop-k.invariant in
    let t = lt-ltb (chunk_at b 9) (length b) (omega (arith, c.chunk_at-end.ensures.0)) in
    simp (e, t) (ap Some c.chunk_at-end.ensures.0)

pub returns : goal.returns
unfolding chunk_fault
returns c = let b = c.args.b.now in
    let k : c.loop-k.k ≡ 9 = omega arith in
    let e = rw k at c.loop-k.invariant in
    let t = le-ltb (chunk_at b 9) (length b) (omega (arith, c.chunk_at-end.ensures.0)) in
    simp (e, t)
