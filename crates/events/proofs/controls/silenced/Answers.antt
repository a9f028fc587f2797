-- Control 120: a turn frees slot i where it is of the channel; the records stay, and the word is built anew.
use mathlib.Core.Path.{◌≡◌, sym, ◌∙◌}
use Prim.Native.Nat.{◌+◌, ◌-◌}
use native.Mathlib.Omega.{arith}
use lib.ListN.{length-map}
use Rattle.voice.specs.Changes.{blank}
use Rattle.state.specs.Slots.{slots_of, of_channel, cut}
use Rattle.events.specs.Controls.{silence}
use Rattle.state.proofs.SlotLoopLaws.{paired-length, word_to, word_none, cut-turn, word_fits, cut_all, cut-free}
use Rattle.events.proofs.controls.silenced.Goals as goal

pub loop-i-init : goal.loop-i-init
loop-i-init c = let e = c.args.e in (
  paired-length e.sounding e.voices ∙ c.well_formed.0.1.1.0.1.0.1,
  sym (word_none (cut (of_channel c.args.channel)) (slots_of e)),
)

pub overflow_add-word : goal.overflow_add-word
overflow_add-word c = let turn : c.loop-i.word + c.flag-word.result
    ≡ word_to (cut (of_channel c.args.channel)) (c.loop-i.i + 1) (slots_of c.args.e) = let p = of_channel c.args.channel in
    cut-turn p (slots_of c.args.e) c.loop-i.i c.loop-i.word c.flag-word.result c.of_channel.result
    c.slot_of-s.result c.freed_if-t.result (cut-free c.args.channel blank) (omega (arith, c.loop-i.invariant.0))
    c.loop-i.invariant.1 c.slot_of-s.ensures c.of_channel.ensures c.freed_if-t.ensures c.flag-word.ensures in
    let f = cut (of_channel c.args.channel) in
    omega (arith, turn, word_fits f (slots_of c.args.e) (c.loop-i.i + 1) c.loop-i.invariant.0 (omega arith))

pub loop-i-preserved : goal.loop-i-preserved
loop-i-preserved c = let turn : c.loop-i.word + c.flag-word.result
    ≡ word_to (cut (of_channel c.args.channel)) (c.loop-i.i + 1) (slots_of c.args.e) = let p = of_channel c.args.channel in
    cut-turn p (slots_of c.args.e) c.loop-i.i c.loop-i.word c.flag-word.result c.of_channel.result
    c.slot_of-s.result c.freed_if-t.result (cut-free c.args.channel blank) (omega (arith, c.loop-i.invariant.0))
    c.loop-i.invariant.1 c.slot_of-s.ensures c.of_channel.ensures c.freed_if-t.ensures c.flag-word.ensures in
    (c.loop-i.invariant.0, turn)

pub returns : goal.returns
unfolding silence
returns c = let i : c.loop-i.i ≡ 32 = omega arith in
    c.with_word.ensures ∙ cut_all (of_channel c.args.channel) c.args.e c.loop-i.word c.loop-i.i c.loop-i.invariant.0 i c.loop-i.invariant.1
