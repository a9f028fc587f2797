-- Refused by its tests, else played, and the clock moved by wrapping addition.
use Rattle.std.proofs.Common.{◌≡◌, ℕ, Result, Err, rules, ◌*◌, ◌<◌, eqb, ◌++◌, length, drop, sym, ap, ◌∙◌, ap₂, arith}
use Rattle.state.specs.declared.Engine.{Engine}
use Rattle.state.specs.Slots.{with_clock}
use Rattle.state.specs.declared.Refusal.{Refusal}
use Rattle.state.specs.Answers.{done, refused, told_call}
use Rattle.state.proofs.AnswersLaws.{refusal-numbered}
use Rattle.engine.specs.Rendering.{output, played, render, rendered}
use Rattle.engine.proofs.RenderingLaws.{zero-low, clock-there}
use Rattle.engine.proofs.rendering.render.Goals as goal

pub returns-in_err-render_number : goal.returns-in_err-render_number
unfolding render rendered
returns-in_err-render_number c = let a = c.args in
    let refusal = c.in_err-render_number.field-0.0 in
    let passed : c.from_residual.result ≡ Err refusal = search rules in
    let q = c.in_err-render_number.ensures in
    let z = sym (ap (λ (k : ℕ). eqb k 0) q) ∙ refusal-numbered refusal in
    record { answer = ap (λ (r : Result ℕ Refusal). told_call r a.e.now) passed ∙ ap (λ (k : ℕ). refused k a.e.now) q ∙ simp z; output = simp z }

pub play-x-requires : goal.play-x-requires
play-x-requires c = let a = c.args in
    let z = zero-low a.to a.ram.now a.rom.now (length a.out.now) a.e.now (sym c.in_ok-render_number.ensures) in
    let q = c.distance_to-n.ensures in
    (omega (arith, z.0, q), omega (arith, z.1, q))

pub returns : goal.returns
unfolding render rendered
returns c = let low : (c.args.e.now.clock < 4294967296) × (c.args.to < 4294967296) = (omega arith, omega arith) in
    let a = c.args in
    let z = sym (ap (λ (k : ℕ). eqb k 0) c.in_ok-render_number.ensures) in
    let q = c.distance_to-n.ensures in
    let t = clock-there a.e.now a.to c.distance_to-n.result c.wrapping_add_u32.result (low).0 (low).1 q c.wrapping_add_u32.ensures.value in
    let x = c.play-x.ensures.state ∙ ap (λ (k : ℕ). played a.ram.now a.rom.now k a.e.now) q in
    record { answer = ap₂ (λ (y : Engine) (k : ℕ). done 0 (with_clock y k)) x t ∙ simp z; output = c.play-x.ensures.output ∙ ap (λ (k : ℕ). output a.ram.now a.rom.now a.e.now k ++ drop (2 * k) a.out.now) q ∙ simp z }
