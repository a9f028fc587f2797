-- Not admitted, no such preset, or its layers.
use mathlib.Core.Path.{◌≡◌, sym, ap, ◌∙◌}
use native.Mathlib.Omega.{arith}
use Prim.Native.Nat.{ℕ, ◌<◌}
use mathlib.Core.Bool.{true}
use borrow.Author.Tests.{not-true, not-false}
use Rattle.bank.specs.Admission.{admitted}
use Rattle.bank.proofs.AdmittedLaws.{admitted-room}
use Rattle.layers.specs.LayerSearch.{preset_for}
use Rattle.layers.specs.Voicing.{voices_of}
use Rattle.records.specs.Sides.{parts_of}
use Rattle.records.specs.declared.Parts.{Parts}
use Rattle.voice.specs.declared.Channel.{Channel}
use Rattle.state.specs.Channels.{channel_at}
use Rattle.events.specs.Striking.{channel_bank}
use Rattle.events.specs.Internal.Striking.{layers_answer}
use Rattle.events.proofs.StrikingLaws.{answer-bad, answer-none, answer-found, preset-low}
use Rattle.events.proofs.striking.strike_bank.Goals as goal

pub returns-then-not-admitted : goal.returns-then-not-admitted
returns-then-not-admitted c = let a = c.args in
    let h = sym c.admitted.ensures ∙ not-true c.admitted.result c.if-not-admitted.true-raw in
    sym (answer-bad a.bank.now a.ram.now a.rom.now a.channel a.key a.velocity a.e.now h)

pub parts_of-m-requires : goal.parts_of-m-requires
parts_of-m-requires c = admitted-room c.args.bank.now (sym c.admitted.ensures ∙ not-false c.admitted.result c.if-not-admitted.false-raw)

pub overflow_cast-h : goal.overflow_cast-h
overflow_cast-h c = let heads : c.parts_of-m.result.presets.nheads < 4294967296 = omega arith in
    omega (arith, heads, preset-low c.args.bank.now c.parts_of-m.result c.bank_number-number.result c.channel_of-c.result.program c.in-Some.h (sym c.preset_for.ensures ∙ c.in-Some.is))

pub returns-in-None : goal.returns-in-None
returns-in-None c = let fine : admitted c.args.bank.now ≡ true = sym c.admitted.ensures ∙ not-false c.admitted.result c.if-not-admitted.false-raw in
    let found : c.preset_for.result
    ≡ preset_for c.args.bank.now (parts_of c.args.bank.now) (channel_bank c.args.e.now c.args.channel)
    (channel_at c.args.e.now c.args.channel).program = let b = c.args.bank.now in
    let m = c.parts_of-m in
    c.preset_for.ensures
    ∙ ap (λ (x : Parts). preset_for b x c.bank_number-number.result c.channel_of-c.result.program) m.ensures
    ∙ ap (λ (x : ℕ). preset_for b (parts_of b) x c.channel_of-c.result.program) c.bank_number-number.ensures
    ∙ ap (λ (x : Channel). preset_for b (parts_of b) (channel_bank c.args.e.now c.args.channel) x.program) c.channel_of-c.ensures in
    let a = c.args in
    sym (answer-none a.bank.now a.ram.now a.rom.now a.channel a.key a.velocity a.e.now (fine) (sym (found) ∙ c.in-None.is))

pub returns-in-Some : goal.returns-in-Some
returns-in-Some c = let fine : admitted c.args.bank.now ≡ true = sym c.admitted.ensures ∙ not-false c.admitted.result c.if-not-admitted.false-raw in
    let found : c.preset_for.result
    ≡ preset_for c.args.bank.now (parts_of c.args.bank.now) (channel_bank c.args.e.now c.args.channel)
    (channel_at c.args.e.now c.args.channel).program = let b = c.args.bank.now in
    let m = c.parts_of-m in
    c.preset_for.ensures
    ∙ ap (λ (x : Parts). preset_for b x c.bank_number-number.result c.channel_of-c.result.program) m.ensures
    ∙ ap (λ (x : ℕ). preset_for b (parts_of b) x c.channel_of-c.result.program) c.bank_number-number.ensures
    ∙ ap (λ (x : Channel). preset_for b (parts_of b) (channel_bank c.args.e.now c.args.channel) x.program) c.channel_of-c.ensures in
    let a = c.args in
    let i = c.in-Some.h in
    c.strike_layers.ensures
    ∙ ap (λ (m : Parts). layers_answer a.ram.now a.rom.now a.channel (voices_of a.bank.now m i a.channel a.key a.velocity) a.e.now) c.parts_of-m.ensures
    ∙ sym (answer-found a.bank.now a.ram.now a.rom.now a.channel a.key a.velocity a.e.now i (fine) (sym (found) ∙ c.in-Some.is))
