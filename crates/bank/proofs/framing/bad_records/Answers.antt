-- `bad_records` meets its contract.
use lib.ListN.{get_or}
use lib.Dec.{ltb}
use Prim.Native.Nat.{ℕ, ◌+◌, ◌%◌}
use borrow.Author.Tests.{ne_eqb, eq-eqb}
use mathlib.Core.Path.{◌≡◌, refl, ap, ap₂, ◌∙◌}
use Rattle.arith.specs.Bytes.{u32_at}
use Rattle.records.specs.Chunks.{sizes, bytes_in}
use Rattle.bank.specs.Framing.{bad_records}
use Rattle.bank.proofs.framing.bad_records.Goals as goal

pub returns-then-u32_at-size-ne0 : goal.returns-then-u32_at-size-ne0
unfolding bad_records bytes_in
returns-then-u32_at-size-ne0 c = let left_over : c.u32_at.result % c.size.result ≡ bytes_in c.args.b.now c.args.k % get_or sizes c.args.k 0 = ap₂ ◌%◌ (c.u32_at.ensures ∙ ap (λ (at : ℕ). u32_at c.args.b.now (at + 4)) c.chunk_at.ensures.0) c.size.ensures.0 in
    rw (← left_over, ne_eqb (c.u32_at.result % c.size.result) 0 c.if-u32_at-size-ne0.true) refl

pub returns : goal.returns
unfolding bad_records bytes_in
returns c = let left_over : c.u32_at.result % c.size.result ≡ bytes_in c.args.b.now c.args.k % get_or sizes c.args.k 0 = ap₂ ◌%◌ (c.u32_at.ensures ∙ ap (λ (at : ℕ). u32_at c.args.b.now (at + 4)) c.chunk_at.ensures.0) c.size.ensures.0 in
    rw (← left_over, eq-eqb (c.u32_at.result % c.size.result) 0 c.if-u32_at-size-ne0.false) (ap₂ ltb c.records_in.ensures c.least.ensures)
