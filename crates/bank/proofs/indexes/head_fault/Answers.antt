-- `head_fault` meets its contract.
use Rattle.std.specs.Prelude.{Some}
use borrow.Author.Rules.{rules}
use mathlib.Core.Path.{◌≡◌, sym, ap, ◌∙◌}
use native.Mathlib.Omega.{arith}
use Prim.Native.Nat.{ℕ, ◌+◌}
use Rattle.bank.specs.Indexes.{bad_head, head_fault}
use Rattle.records.specs.Looking.{placed}
use Rattle.records.proofs.LookingLaws.{first-none, first-miss0, first-hit0}
use Rattle.records.specs.Sides.{head_at}
use Rattle.bank.proofs.indexes.head_fault.Goals as goal

pub loop-h-init : goal.loop-h-init
loop-h-init c = first-none _ _

pub returns-then-bad_head : goal.returns-then-bad_head
unfolding head_fault
returns-then-bad_head c = let a = c.args in
    ap (λ (x : ℕ). Some (a.s.heads + x)) c.times.ensures.0
    ∙ ap (placed (head_at a.s))
    (sym (first-hit0 (bad_head a.b.now a.s) c.loop-h.h a.s.nheads c.loop-h.invariant (sym c.bad_head.ensures ∙ c.if-bad_head.true) (search rules)))

pub loop-h-preserved : goal.loop-h-preserved
loop-h-preserved c = let a = c.args in
    (first-miss0 (bad_head a.b.now a.s) c.loop-h.h c.loop-h.invariant (sym c.bad_head.ensures ∙ c.if-bad_head.false))

pub returns : goal.returns
unfolding head_fault
returns c = let a = c.args in
    let e : c.loop-h.h ≡ a.s.nheads = omega arith in
    ap (placed (head_at a.s)) (sym (rw e at c.loop-h.invariant))
