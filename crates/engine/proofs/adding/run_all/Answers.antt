-- A turn runs slot i into the sums, stores its record, and adds its flag to the word.
use Rattle.std.proofs.Common.{◌≡◌, ◌+◌, ◌-◌, List, length, get_or, sym, refl, ap, ◌∙◌, arith, take_all}
use lib.ListN.{length-map}
use Rattle.arith.proofs.WithinLaws.{w_le}
use Rattle.voice.specs.declared.Slot.{Slot}
use Rattle.voice.specs.Changes.{blank, free}
use Rattle.voice.specs.Internal.Sums.{add_to}
use Rattle.voice.proofs.SumsLaws.{add_to-length, add_to-small}
use Rattle.state.specs.Slots.{slots_of}
use Rattle.engine.specs.Rendering.{slot_after, played}
use Rattle.state.proofs.SlotLoopLaws.{paired-length, word_to, word_none, flag-turn, word_fits, store-none, store-turn, store-all}
use Rattle.engine.specs.Internal.Sums.{slot_heard, add_all}
use Rattle.engine.proofs.RenderingLaws.{slot-stays, add_none, add_turn}
use Rattle.engine.proofs.adding.run_all.Goals as goal

pub loop-i-init : goal.loop-i-init
loop-i-init c = let a = c.args in
    let e = a.e in
    let f = slot_after a.ram.now a.rom.now e a.n in (
      paired-length e.sounding e.voices ∙ c.well_formed.0.1.1.0.1.0.1,
      store-none f e,
      sym (word_none f (slots_of e)),
      sym (add_none (slot_heard a.ram.now a.rom.now e a.n) (slots_of e) a.acc.now),
      c.requires.sums.1,
      refl,
      c.requires.sums.0,
    )

pub overflow_add-word : goal.overflow_add-word
overflow_add-word c = let one : c.run_slot-t.result ≡ slot_after c.args.ram.now c.args.rom.now c.args.e c.args.n (get_or (slots_of c.args.e) c.loop-i.i (free blank)) = c.run_slot-t.ensures.slot ∙ ap (slot_after c.args.ram.now c.args.rom.now c.args.e c.args.n) c.slot_of-s.ensures in
    let turn : c.loop-i.word + c.flag-word.result ≡ word_to (slot_after c.args.ram.now c.args.rom.now c.args.e c.args.n) (c.loop-i.i + 1) (slots_of c.args.e) = let a = c.args in
    flag-turn (slot_after c.args.ram.now c.args.rom.now c.args.e c.args.n) (slots_of a.e) c.loop-i.i c.loop-i.word c.flag-word.result c.run_slot-t.result
    (slot-stays a.ram.now a.rom.now a.e a.n) (omega (arith, c.loop-i.invariant.0)) c.loop-i.invariant.2 (one) c.flag-word.ensures in
    let a = c.args in
    omega (arith, turn, word_fits (slot_after a.ram.now a.rom.now a.e a.n) (slots_of a.e) (c.loop-i.i + 1) c.loop-i.invariant.0 (omega arith))

pub loop-i-preserved : goal.loop-i-preserved
loop-i-preserved c = let one : c.run_slot-t.result ≡ slot_after c.args.ram.now c.args.rom.now c.args.e c.args.n (get_or (slots_of c.args.e) c.loop-i.i (free blank)) = c.run_slot-t.ensures.slot ∙ ap (slot_after c.args.ram.now c.args.rom.now c.args.e c.args.n) c.slot_of-s.ensures in
    let turn : c.loop-i.word + c.flag-word.result ≡ word_to (slot_after c.args.ram.now c.args.rom.now c.args.e c.args.n) (c.loop-i.i + 1) (slots_of c.args.e) = let a = c.args in
    flag-turn (slot_after c.args.ram.now c.args.rom.now c.args.e c.args.n) (slots_of a.e) c.loop-i.i c.loop-i.word c.flag-word.result c.run_slot-t.result
    (slot-stays a.ram.now a.rom.now a.e a.n) (omega (arith, c.loop-i.invariant.0)) c.loop-i.invariant.2 (one) c.flag-word.ensures in
    let a = c.args in
    let e = a.e in
    let h = slot_heard a.ram.now a.rom.now e a.n in
    let s = c.slot_of-s.result in
    let sum = c.run_slot-t.ensures.sums in (
      c.loop-i.invariant.0,
      store-turn (slot_after a.ram.now a.rom.now e a.n) (slots_of e) e c.loop-i.x c.loop-i.i c.run_slot-t.result (omega arith) c.loop-i.invariant.1 (one),
      turn,
      sum
          ∙ ap (λ (z : Slot). add_to (h z) c.loop-i.acc) c.slot_of-s.ensures
          ∙ ap (add_to (h (get_or (slots_of e) c.loop-i.i (free blank)))) c.loop-i.invariant.3
          ∙ sym (add_turn h (slots_of e) c.loop-i.i a.acc.now (omega (arith, c.loop-i.invariant.0))),
      (λ j. rw sum (add_to-small (h s) c.loop-i.acc c.loop-i.i c.run_slot-t.ensures.small c.loop-i.invariant.4 j)),
      ap length sum ∙ add_to-length (h s) c.loop-i.acc ∙ c.loop-i.invariant.5,
      c.loop-i.invariant.6,
    )

pub returns : goal.returns
unfolding played
returns c = let a = c.args in
    let e = a.e in
    let f = slot_after a.ram.now a.rom.now e a.n in
    let h = slot_heard a.ram.now a.rom.now e a.n in
    let i : c.loop-i.i ≡ 32 = omega arith in
    record { state = c.with_word.ensures ∙ store-all f e c.loop-i.x c.loop-i.word c.loop-i.i c.loop-i.invariant.0 i c.loop-i.invariant.1 c.loop-i.invariant.2; sums = c.loop-i.invariant.3 ∙ ap (λ (ss : List Slot). add_all h ss a.acc.now) (take_all c.loop-i.i (slots_of e) (omega (arith, c.loop-i.invariant.0))) }
