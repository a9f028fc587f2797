-- `bank::admission` meets its contract: the tests one after the other, each passed or the last.
use Rattle.std.proofs.Common.{◌≡◌, sym, ap, ◌∙◌, ℕ, List, Option, Result, Ok, Err, arith, rules}
use Rattle.bank.specs.Admission.{fault_of, fault_at}
use Rattle.bank.specs.Bounds.{window_fault}
use Rattle.bank.specs.Indexes.{index_fault}
use Rattle.bank.specs.Links.{number_fault}
use Rattle.bank.specs.Rates.{rate_fault}
use Rattle.bank.proofs.AdmissionLaws.{fault-none, tells, passes, fails}
use Rattle.bank.proofs.RulesLaws.{short, whole-bank}
use Rattle.bank.proofs.admission.Goals as goal

pub returns-in_err-fault_at : goal.returns-in_err-fault_at
unfolding fault_of
returns-in_err-fault_at c = let r : c.from_residual.result ≡ Err c.in_err-fault_at.field-0.0 = search rules in
    r ∙ sym (fails _ (tells _ _ _ c.fault_at.ensures c.long_fault.ensures c.in_err-fault_at.was))

pub returns-in_err-fault_at-2 : goal.returns-in_err-fault_at-2
unfolding fault_of
returns-in_err-fault_at-2 c = let r : c.from_residual-in_err-fault_at-2.result ≡ Err c.in_err-fault_at-2.field-0.0 = search rules in
    r ∙ sym (passes (tells _ _ _ c.fault_at.ensures c.long_fault.ensures c.in_ok-fault_at.was)
    (fails _ (tells _ _ _ c.fault_at-2.ensures c.chunk_fault.ensures c.in_err-fault_at-2.was)))

pub returns-in_err-fault_at-3 : goal.returns-in_err-fault_at-3
unfolding fault_of
returns-in_err-fault_at-3 c = let r : c.from_residual-in_err-fault_at-3.result ≡ Err c.in_err-fault_at-3.field-0.0 = search rules in
    r ∙ sym (passes (tells _ _ _ c.fault_at.ensures c.long_fault.ensures c.in_ok-fault_at.was)
    (passes (tells _ _ _ c.fault_at-2.ensures c.chunk_fault.ensures c.in_ok-fault_at-2.was)
    (fails _ (tells _ _ _ c.fault_at-3.ensures c.records_fault.ensures c.in_err-fault_at-3.was))))

pub parts_of-m-requires : goal.parts_of-m-requires
parts_of-m-requires c = let b = c.args.b.now in
    let low = short b (fault-none _ _ (tells _ _ _ c.fault_at.ensures c.long_fault.ensures c.in_ok-fault_at.was)) in
    let all = whole-bank b (fault-none _ _ (tells _ _ _ c.fault_at-2.ensures c.chunk_fault.ensures c.in_ok-fault_at-2.was)) in
    omega arith

pub returns-in_err-fault_at-4 : goal.returns-in_err-fault_at-4
unfolding fault_of
returns-in_err-fault_at-4 c = let r : c.from_residual-in_err-fault_at-4.result ≡ Err c.in_err-fault_at-4.field-0.0 = search rules in
    r ∙ sym (passes (tells _ _ _ c.fault_at.ensures c.long_fault.ensures c.in_ok-fault_at.was)
    (passes (tells _ _ _ c.fault_at-2.ensures c.chunk_fault.ensures c.in_ok-fault_at-2.was)
    (passes (tells _ _ _ c.fault_at-3.ensures c.records_fault.ensures c.in_ok-fault_at-3.was)
    (fails _ (tells _ _ _ c.fault_at-4.ensures (c.index_fault.ensures ∙ ap (index_fault c.args.b.now) c.parts_of-m.ensures) c.in_err-fault_at-4.was)))))

pub returns-in_err-fault_at-5 : goal.returns-in_err-fault_at-5
unfolding fault_of
returns-in_err-fault_at-5 c = let r : c.from_residual-in_err-fault_at-5.result ≡ Err c.in_err-fault_at-5.field-0.0 = search rules in
    r ∙ sym (passes (tells _ _ _ c.fault_at.ensures c.long_fault.ensures c.in_ok-fault_at.was)
    (passes (tells _ _ _ c.fault_at-2.ensures c.chunk_fault.ensures c.in_ok-fault_at-2.was)
    (passes (tells _ _ _ c.fault_at-3.ensures c.records_fault.ensures c.in_ok-fault_at-3.was)
    (passes (tells _ _ _ c.fault_at-4.ensures (c.index_fault.ensures ∙ ap (index_fault c.args.b.now) c.parts_of-m.ensures) c.in_ok-fault_at-4.was)
    (fails _ (tells _ _ _ c.fault_at-5.ensures (c.number_fault.ensures ∙ ap (number_fault c.args.b.now) c.parts_of-m.ensures) c.in_err-fault_at-5.was))))))

pub returns-in_err-fault_at-6 : goal.returns-in_err-fault_at-6
unfolding fault_of
returns-in_err-fault_at-6 c = let r : c.from_residual-in_err-fault_at-6.result ≡ Err c.in_err-fault_at-6.field-0.0 = search rules in
    r ∙ sym (passes (tells _ _ _ c.fault_at.ensures c.long_fault.ensures c.in_ok-fault_at.was)
    (passes (tells _ _ _ c.fault_at-2.ensures c.chunk_fault.ensures c.in_ok-fault_at-2.was)
    (passes (tells _ _ _ c.fault_at-3.ensures c.records_fault.ensures c.in_ok-fault_at-3.was)
    (passes (tells _ _ _ c.fault_at-4.ensures (c.index_fault.ensures ∙ ap (index_fault c.args.b.now) c.parts_of-m.ensures) c.in_ok-fault_at-4.was)
    (passes (tells _ _ _ c.fault_at-5.ensures (c.number_fault.ensures ∙ ap (number_fault c.args.b.now) c.parts_of-m.ensures) c.in_ok-fault_at-5.was)
    (fails _ (tells _ _ _ c.fault_at-6.ensures (c.rate_fault.ensures ∙ ap (rate_fault c.args.b.now) c.parts_of-m.ensures) c.in_err-fault_at-6.was)))))))

pub returns : goal.returns
unfolding fault_of
returns c = let e = c.fault_at-7.ensures ∙ ap (fault_at _) (c.window_fault.ensures ∙ ap (window_fault c.args.b.now) c.parts_of-m.ensures) in
    sym (passes (tells _ _ _ c.fault_at.ensures c.long_fault.ensures c.in_ok-fault_at.was)
    (passes (tells _ _ _ c.fault_at-2.ensures c.chunk_fault.ensures c.in_ok-fault_at-2.was)
    (passes (tells _ _ _ c.fault_at-3.ensures c.records_fault.ensures c.in_ok-fault_at-3.was)
    (passes (tells _ _ _ c.fault_at-4.ensures (c.index_fault.ensures ∙ ap (index_fault c.args.b.now) c.parts_of-m.ensures) c.in_ok-fault_at-4.was)
    (passes (tells _ _ _ c.fault_at-5.ensures (c.number_fault.ensures ∙ ap (number_fault c.args.b.now) c.parts_of-m.ensures) c.in_ok-fault_at-5.was)
    (passes (tells _ _ _ c.fault_at-6.ensures (c.rate_fault.ensures ∙ ap (rate_fault c.args.b.now) c.parts_of-m.ensures) c.in_ok-fault_at-6.was)
    (sym e)))))))
