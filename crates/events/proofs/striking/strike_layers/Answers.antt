-- The voices of the layers, in an array: too many, one past its memory, or struck.
use mathlib.Core.Path.{◌≡◌, sym, ap, ◌∙◌, ap₂}
use native.Mathlib.Omega.{arith}
use mathlib.Core.List.{List}
use borrow.Author.Tests.{lt-ltb, le-ltb}
use lib.ListN.{length}
use Rattle.layers.specs.Voicing.{voices_of}
use Rattle.voice.specs.declared.Voice.{Voice}
use Rattle.state.specs.Answers.{done}
use Rattle.events.specs.Starting.{any_past, struck}
use Rattle.events.specs.Internal.Striking.{layers_answer}
use Rattle.events.proofs.StrikingLaws.{few-count, few-by}
use Rattle.events.proofs.striking.strike_layers.Goals as goal

pub returns-then-n-gt32 : goal.returns-then-n-gt32
unfolding layers_answer
returns-then-n-gt32 c = let layers : List Voice = let a = c.args in
    voices_of a.bank.now a.m a.h a.channel a.key a.velocity in
    let counted : c.voices_for-s.result.count ≡ length (layers) = few-count c.voices_for-s.result (layers) c.voices_for-s.ensures in
    simp (lt-ltb 32 (length (layers)) (omega (arith, counted, c.if-n-gt32.true)))

pub returns-then-any_past : goal.returns-then-any_past
unfolding layers_answer
returns-then-any_past c = let layers : List Voice = let a = c.args in
    voices_of a.bank.now a.m a.h a.channel a.key a.velocity in
    let counted : c.voices_for-s.result.count ≡ length (layers) = few-count c.voices_for-s.result (layers) c.voices_for-s.ensures in
    let a = c.args in
    let few = few-by c.voices_for-s.result (layers) c.voices_for-s.ensures c.if-n-gt32.false in
    let q = sym (c.any_past.ensures ∙ ap (any_past a.ram.now a.rom.now) few) ∙ c.if-any_past.true in
    simp (le-ltb 32 (length (layers)) (omega (arith, counted, c.if-n-gt32.false)), q)

pub returns : goal.returns
unfolding layers_answer
returns c = let layers : List Voice = let a = c.args in
    voices_of a.bank.now a.m a.h a.channel a.key a.velocity in
    let counted : c.voices_for-s.result.count ≡ length (layers) = few-count c.voices_for-s.result (layers) c.voices_for-s.ensures in
    let a = c.args in
    let few = few-by c.voices_for-s.result (layers) c.voices_for-s.ensures c.if-n-gt32.false in
    let q = sym (c.any_past.ensures ∙ ap (any_past a.ram.now a.rom.now) few) ∙ c.if-any_past.false in
    ap₂ done (counted) (c.strike.ensures ∙ ap (λ (vs : List Voice). (struck a.channel vs a.e.now).engine) few)
    ∙ simp (le-ltb 32 (length (layers)) (omega (arith, counted, c.if-n-gt32.false)), q)
