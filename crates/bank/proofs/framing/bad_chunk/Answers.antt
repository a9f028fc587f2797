-- `bad_chunk` meets its contract.
use lib.ListN.{get_or, length}
use lib.Dec.{eqb, ltb}
use borrow.Author.Tests.{ne_eqb, eq-eqb}
use mathlib.Core.Path.{◌≡◌, refl, sym, ap, ap₂, ◌∙◌}
use Rattle.arith.specs.Bytes.{u32_at}
use Rattle.records.specs.Chunks.{names, name_at}
use Rattle.bank.specs.Framing.{bad_chunk}
use Rattle.bank.proofs.framing.bad_chunk.Goals as goal

pub returns-then-u32_at-name : goal.returns-then-u32_at-name
unfolding bad_chunk name_at
returns-then-u32_at-name c = let compared : eqb c.u32_at.result c.name.result ≡ eqb (name_at c.args.b.now c.args.k) (get_or names c.args.k 0) = ap₂ eqb (c.u32_at.ensures ∙ ap (u32_at c.args.b.now) c.chunk_at.ensures.0) c.name.ensures in
    rw (sym (compared) ∙ ne_eqb c.u32_at.result c.name.result c.if-u32_at-name.true) refl

pub returns : goal.returns
unfolding bad_chunk name_at
returns c = let compared : eqb c.u32_at.result c.name.result ≡ eqb (name_at c.args.b.now c.args.k) (get_or names c.args.k 0) = ap₂ eqb (c.u32_at.ensures ∙ ap (u32_at c.args.b.now) c.chunk_at.ensures.0) c.name.ensures in
    let same = sym (compared) ∙ eq-eqb c.u32_at.result c.name.result c.if-u32_at-name.false in
    rw same (ap (ltb (length c.args.b.now)) c.chunk_at-2.ensures.0)
