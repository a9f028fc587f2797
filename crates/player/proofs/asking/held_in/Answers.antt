-- One slot a turn.
use Rattle.std.proofs.Common.{◌≡◌, ℕ, ◌+◌, ◌-◌, cond, refl, ap, ◌∙◌, arith}
use lib.ListN.{length-map}
use Rattle.arith.proofs.Loops.{count_to, count-step, count-le, count-all}
use Rattle.voice.specs.declared.Slot.{Slot}
use Rattle.voice.specs.Changes.{blank, free}
use Rattle.state.specs.Slots.{slots_of}
use Rattle.state.proofs.SlotLoopLaws.{paired-length}
use Rattle.player.specs.Asking.{is_held}
use Rattle.player.proofs.asking.held_in.Goals as goal

pub loop-i-init : goal.loop-i-init
unfolding count_to
loop-i-init c = let e = c.args.e in
    (paired-length e.sounding e.voices ∙ c.well_formed.0.1.1.0.1.0.1, refl)

pub overflow_add-count : goal.overflow_add-count
overflow_add-count c = let counted : c.loop-i.count + c.one_if_held-count.result
    ≡ count_to is_held (c.loop-i.i + 1) (slots_of c.args.e) = let ss = slots_of c.args.e in
    let q = c.one_if_held-count.ensures ∙ ap (λ (s : Slot). cond (is_held s) 1 0) c.slot_of.ensures in
    omega (arith, c.loop-i.invariant.1, q, count-step is_held ss c.loop-i.i (free blank) (omega (arith, c.loop-i.invariant.0))) in
    omega (arith, counted, count-le is_held (slots_of c.args.e) (c.loop-i.i + 1))

pub loop-i-preserved : goal.loop-i-preserved
loop-i-preserved c = let counted : c.loop-i.count + c.one_if_held-count.result
    ≡ count_to is_held (c.loop-i.i + 1) (slots_of c.args.e) = let ss = slots_of c.args.e in
    let q = c.one_if_held-count.ensures ∙ ap (λ (s : Slot). cond (is_held s) 1 0) c.slot_of.ensures in
    omega (arith, c.loop-i.invariant.1, q, count-step is_held ss c.loop-i.i (free blank) (omega (arith, c.loop-i.invariant.0))) in
    (c.loop-i.invariant.0, counted)

pub returns : goal.returns
returns c = let ss = slots_of c.args.e in
    let n : c.loop-i.i ≡ 32 = omega arith in
    c.loop-i.invariant.1 ∙ ap (λ (j : ℕ). count_to is_held j ss) n ∙ count-all is_held ss 32 c.loop-i.invariant.0
