-- A turn lets slot i off where it is picked, counts it, stores its record, and adds its flag to the word.
use mathlib.Core.Path.{◌≡◌, refl, sym, ap, ◌∙◌}
use Prim.Native.Nat.{ℕ, ◌+◌, ◌-◌}
use mathlib.Core.Bool.{Bool, cond}
use native.Mathlib.Omega.{arith}
use lib.ListN.{length-map, get_or}
use Rattle.arith.proofs.Loops.{count_to, count-step, count-le, count-all}
use Rattle.arith.specs.Lists.{count_if}
use Rattle.voice.specs.Changes.{blank, free}
use Rattle.state.specs.Slots.{slots_of}
use Rattle.state.specs.Answers.{done}
use Rattle.events.specs.Keys.{let_off}
use Rattle.events.specs.Internal.Keys.{picked, off_all}
use Rattle.events.proofs.KeysLaws.{picked-free, off-keeps, one-if}
use Rattle.state.proofs.SlotLoopLaws.{paired-length, word_to, word_none, flag-turn, word_fits, store-none, store-turn, store-all}
use Rattle.events.proofs.keys.off_all.Goals as goal

pub loop-i-init : goal.loop-i-init
unfolding count_to
loop-i-init c = let e = c.args.e in
    let f = let_off c.args.down (picked c.args.channel c.args.whom) in (
      paired-length e.sounding e.voices ∙ c.well_formed.0.1.1.0.1.0.1,
      store-none f e,
      sym (word_none f (slots_of e)),
      refl,
    )

pub overflow_add-count : goal.overflow_add-count
overflow_add-count c = let counted : c.loop-i.count + c.from-count.result
    ≡ count_to (picked c.args.channel c.args.whom)
    (c.loop-i.i + 1) (slots_of c.args.e) = let a = c.args in
    let p = picked a.channel a.whom in
    let q : c.from-count.result ≡ cond (p (get_or (slots_of a.e) c.loop-i.i (free blank))) 1 0 = c.from-count.ensures ∙ one-if c.is_picked.result ∙ ap (λ (b : Bool). cond b 1 0) (c.is_picked.ensures ∙ ap p c.slot_of-s.ensures) in
    omega (arith, c.loop-i.invariant.3, q, count-step p (slots_of a.e) c.loop-i.i (free blank) (omega (arith, c.loop-i.invariant.0))) in
    let p = picked c.args.channel c.args.whom in
    omega (arith, counted, count-le p (slots_of c.args.e) (c.loop-i.i + 1))

pub overflow_add-word : goal.overflow_add-word
overflow_add-word c = let one : c.off_one-t.result
    ≡ let_off c.args.down (picked c.args.channel c.args.whom)
    (get_or (slots_of c.args.e) c.loop-i.i (free blank)) = let a = c.args in
    c.off_one-t.ensures
    ∙ ap (let_off a.down (picked a.channel a.whom)) c.slot_of-s.ensures in
    let turn : c.loop-i.word + c.flag-word.result
    ≡ word_to (let_off c.args.down (picked c.args.channel c.args.whom)) (c.loop-i.i + 1)
    (slots_of c.args.e) = let a = c.args in
    let p = picked a.channel a.whom in
    flag-turn (let_off a.down p) (slots_of a.e) c.loop-i.i c.loop-i.word c.flag-word.result c.off_one-t.result
    (off-keeps a.down p (free blank) (picked-free a.channel a.whom blank)) (omega (arith, c.loop-i.invariant.0)) c.loop-i.invariant.2 (one)
    c.flag-word.ensures in
    let f = let_off c.args.down (picked c.args.channel c.args.whom) in
    omega (arith, turn, word_fits f (slots_of c.args.e) (c.loop-i.i + 1) c.loop-i.invariant.0 (omega arith))

pub loop-i-preserved : goal.loop-i-preserved
loop-i-preserved c = let one : c.off_one-t.result
    ≡ let_off c.args.down (picked c.args.channel c.args.whom)
    (get_or (slots_of c.args.e) c.loop-i.i (free blank)) = let a = c.args in
    c.off_one-t.ensures
    ∙ ap (let_off a.down (picked a.channel a.whom)) c.slot_of-s.ensures in
    let turn : c.loop-i.word + c.flag-word.result
    ≡ word_to (let_off c.args.down (picked c.args.channel c.args.whom)) (c.loop-i.i + 1)
    (slots_of c.args.e) = let a = c.args in
    let p = picked a.channel a.whom in
    flag-turn (let_off a.down p) (slots_of a.e) c.loop-i.i c.loop-i.word c.flag-word.result c.off_one-t.result
    (off-keeps a.down p (free blank) (picked-free a.channel a.whom blank)) (omega (arith, c.loop-i.invariant.0)) c.loop-i.invariant.2 (one)
    c.flag-word.ensures in
    let counted : c.loop-i.count + c.from-count.result
    ≡ count_to (picked c.args.channel c.args.whom)
    (c.loop-i.i + 1) (slots_of c.args.e) = let a = c.args in
    let p = picked a.channel a.whom in
    let q : c.from-count.result ≡ cond (p (get_or (slots_of a.e) c.loop-i.i (free blank))) 1 0 = c.from-count.ensures ∙ one-if c.is_picked.result ∙ ap (λ (b : Bool). cond b 1 0) (c.is_picked.ensures ∙ ap p c.slot_of-s.ensures) in
    omega (arith, c.loop-i.invariant.3, q, count-step p (slots_of a.e) c.loop-i.i (free blank) (omega (arith, c.loop-i.invariant.0))) in
    let a = c.args in
    let f = let_off a.down (picked a.channel a.whom) in (
      c.loop-i.invariant.0,
      store-turn f (slots_of a.e) a.e c.loop-i.x c.loop-i.i c.off_one-t.result (omega arith) c.loop-i.invariant.1 (one),
      turn,
      counted,
    )

pub returns : goal.returns
unfolding off_all
returns c = let a = c.args in
    let p = picked a.channel a.whom in
    let f = let_off a.down p in
    let i : c.loop-i.i ≡ 32 = omega arith in
    let n = c.loop-i.invariant.3 ∙ ap (λ (j : ℕ). count_to p j (slots_of a.e)) i ∙ count-all p (slots_of a.e) 32 c.loop-i.invariant.0 in
    let x = c.with_word.ensures ∙ store-all f a.e c.loop-i.x c.loop-i.word c.loop-i.i c.loop-i.invariant.0 i c.loop-i.invariant.1 c.loop-i.invariant.2 in
    ap (λ (m : ℕ). done m c.with_word.result) n ∙ ap (done (count_if p (slots_of a.e))) x
