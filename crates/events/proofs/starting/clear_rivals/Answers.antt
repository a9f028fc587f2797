-- A turn frees slot i where it is a rival; the records stay, and the word is built anew.
use mathlib.Core.Path.{◌≡◌, sym, ◌∙◌}
use Prim.Native.Nat.{◌+◌, ◌-◌}
use native.Mathlib.Omega.{arith}
use lib.ListN.{length-map, take}
use Rattle.voice.specs.Changes.{blank}
use Rattle.state.specs.Slots.{slots_of, cut}
use Rattle.events.specs.Starting.{rival, cleared}
use Rattle.state.proofs.SlotLoopLaws.{paired-length, word_to, word_none, cut-turn, word_fits, cut_all}
use Rattle.events.proofs.StartingLaws.{rival-free}
use Rattle.events.proofs.starting.clear_rivals.Goals as goal

pub loop-i-init : goal.loop-i-init
loop-i-init c = let a = c.args in
    let e = a.e in (
      paired-length e.sounding e.voices ∙ c.well_formed.0.1.1.0.1.0.1,
      sym (word_none (cut (rival a.channel a.voices.now)) (slots_of e)),
    )

pub overflow_add-word : goal.overflow_add-word
overflow_add-word c = let turn : c.loop-i.word + c.flag-word.result
    ≡ word_to (cut (rival c.args.channel c.args.voices.now)) (c.loop-i.i + 1) (slots_of c.args.e) = let a = c.args in
    cut-turn (rival c.args.channel c.args.voices.now) (slots_of a.e) c.loop-i.i c.loop-i.word c.flag-word.result c.is_rival.result
    c.slot_of-s.result c.freed_if-t.result (rival-free a.channel a.voices.now blank)
    (omega (arith, c.loop-i.invariant.0)) c.loop-i.invariant.1 c.slot_of-s.ensures c.is_rival.ensures
    c.freed_if-t.ensures c.flag-word.ensures in
    let f = cut (rival c.args.channel c.args.voices.now) in
    omega (arith, turn, word_fits f (slots_of c.args.e) (c.loop-i.i + 1) c.loop-i.invariant.0 (omega arith))

pub loop-i-preserved : goal.loop-i-preserved
loop-i-preserved c = let turn : c.loop-i.word + c.flag-word.result
    ≡ word_to (cut (rival c.args.channel c.args.voices.now)) (c.loop-i.i + 1) (slots_of c.args.e) = let a = c.args in
    cut-turn (rival c.args.channel c.args.voices.now) (slots_of a.e) c.loop-i.i c.loop-i.word c.flag-word.result c.is_rival.result
    c.slot_of-s.result c.freed_if-t.result (rival-free a.channel a.voices.now blank)
    (omega (arith, c.loop-i.invariant.0)) c.loop-i.invariant.1 c.slot_of-s.ensures c.is_rival.ensures
    c.freed_if-t.ensures c.flag-word.ensures in
    (c.loop-i.invariant.0, turn)

pub returns : goal.returns
unfolding cleared
returns c = let i : c.loop-i.i ≡ 32 = omega arith in
    c.with_word.ensures ∙ cut_all (rival c.args.channel c.args.voices.now) c.args.e c.loop-i.word c.loop-i.i c.loop-i.invariant.0 i c.loop-i.invariant.1
