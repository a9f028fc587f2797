-- `past_memory` meets its contract.
use mathlib.Core.Path.{refl, sym, ap, ◌∙◌}
use Rattle.records.specs.declared.Parts.{Parts}
use Rattle.bank.specs.Past.{past_fault, past_memory}
use Rattle.bank.proofs.AdmittedLaws.{admitted-room}
use Rattle.bank.proofs.past.past_memory.Goals as goal

pub parts_of-requires : goal.parts_of-requires
parts_of-requires c = admitted-room c.args.bank.now (sym c.admitted.ensures ∙ c.if-admitted.true)

pub returns-then-admitted : goal.returns-then-admitted
unfolding past_memory
returns-then-admitted c = let a = c.args in
    rw (sym c.admitted.ensures ∙ c.if-admitted.true) (c.past_fault.ensures ∙ ap (λ (m : Parts). past_fault a.bank.now m a.ram a.rom) c.parts_of.ensures)

pub returns : goal.returns
unfolding past_memory
returns c = rw (sym c.admitted.ensures ∙ c.if-admitted.false) refl
