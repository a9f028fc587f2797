-- Those of this note-on last; the released first; then by struck velocity.
use mathlib.Core.Path.{sym, ap, ◌∙◌}
use Prim.Native.Nat.{◌+◌}
use Rattle.voice.specs.declared.Slot.{Slot}
use Rattle.voice.specs.Stages.{released}
use Rattle.state.specs.Seats.{claim}
use Rattle.state.proofs.seats.claim_of.Goals as goal

pub returns-then-has : goal.returns-then-has
unfolding claim
returns-then-has c = let e = sym c.has.ensures ∙ c.if-has.true in simp e

pub returns-then-is_released : goal.returns-then-is_released
unfolding claim
returns-then-is_released c = let h = sym c.has.ensures ∙ c.if-has.false in
    let r = ap (λ (s : Slot). released s.voice.stage) (sym c.slot_of-s.ensures) ∙ sym c.is_released.ensures ∙ c.if-is_released.true in
    ap (λ (s : Slot). s.voice.velocity) c.slot_of-s.ensures ∙ simp (h, r)

pub returns : goal.returns
unfolding claim
returns c = let h = sym c.has.ensures ∙ c.if-has.false in
    let r = ap (λ (s : Slot). released s.voice.stage) (sym c.slot_of-s.ensures) ∙ sym c.is_released.ensures ∙ c.if-is_released.false in
    ap (λ (s : Slot). 256 + s.voice.velocity) c.slot_of-s.ensures ∙ simp (h, r)
