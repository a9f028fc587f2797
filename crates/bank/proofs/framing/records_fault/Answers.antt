-- `records_fault` meets its contract.
use Rattle.std.specs.Prelude.{Some}
use native.Mathlib.Omega.{arith}
use mathlib.Core.Path.{◌≡◌, sym, ap, ◌∙◌}
use borrow.Author.Rules.{rules}
use Rattle.records.proofs.LookingLaws.{first-none, first-miss0, first-hit0}
use Rattle.bank.specs.Framing.{bad_records, records_fault}
use Rattle.bank.proofs.framing.records_fault.Goals as goal

pub loop-k-init : goal.loop-k-init
loop-k-init c = first-none _ _

pub returns-then-bad_records : goal.returns-then-bad_records
unfolding records_fault
returns-then-bad_records c = let b = c.args.b.now in
    let e = first-hit0 (bad_records b) c.loop-k.k 9 c.loop-k.invariant (sym c.bad_records.ensures ∙ c.if-bad_records.true) (search rules) in
    simp e (ap Some c.chunk_at.ensures.0)

pub loop-k-preserved : goal.loop-k-preserved
loop-k-preserved c = let b = c.args.b.now in
    (first-miss0 (bad_records b) c.loop-k.k c.loop-k.invariant (sym c.bad_records.ensures ∙ c.if-bad_records.false))

pub returns : goal.returns
unfolding records_fault
returns c = let b = c.args.b.now in
    let k : c.loop-k.k ≡ 9 = omega arith in
    simp (rw k at c.loop-k.invariant)
