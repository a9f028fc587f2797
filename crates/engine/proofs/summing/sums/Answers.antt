-- Render's tests, else the sums into the first 2n numbers, and the clock moved by wrapping addition.
use Rattle.std.proofs.Common.{◌≡◌, ℕ, Result, Err, rules, ◌*◌, ◌<◌, ◌≤◌, eqb, ◌++◌, length, drop, sym, ap, ◌∙◌, ap₂, arith, length-take-le}
use Rattle.state.specs.declared.Engine.{Engine}
use Rattle.state.specs.Slots.{with_clock}
use Rattle.state.specs.declared.Refusal.{Refusal}
use Rattle.state.specs.Answers.{done, refused, told_call}
use Rattle.state.proofs.AnswersLaws.{refusal-numbered}
use Rattle.engine.specs.Rendering.{played, render}
use Rattle.engine.specs.Summing.{sums_of, summed}
use Rattle.engine.proofs.RenderingLaws.{zero-low, clock-there}
use Rattle.engine.proofs.summing.sums.Goals as goal

pub returns-in_err-render_number : goal.returns-in_err-render_number
unfolding render summed
returns-in_err-render_number c = let a = c.args in
    let refusal = c.in_err-render_number.field-0.0 in
    let passed : c.from_residual.result ≡ Err refusal = search rules in
    let q = c.in_err-render_number.ensures in
    let z = sym (ap (λ (k : ℕ). eqb k 0) q) ∙ refusal-numbered refusal in
    record { answer = ap (λ (r : Result ℕ Refusal). told_call r a.e.now) passed ∙ ap (λ (k : ℕ). refused k a.e.now) q ∙ simp z; output = simp z }

pub slice_bounds-add_up-end : goal.slice_bounds-add_up-end
slice_bounds-add_up-end c = let a = c.args in
    let z = zero-low a.to a.ram.now a.rom.now (length a.out.now) a.e.now (sym c.in_ok-render_number.ensures) in
    omega (arith, z.1, c.distance_to-n.ensures)

pub slice_bounds-add_up-end-2 : goal.slice_bounds-add_up-end-2
slice_bounds-add_up-end-2 c = let a = c.args in
    let z = zero-low a.to a.ram.now a.rom.now (length a.out.now) a.e.now (sym c.in_ok-render_number.ensures) in
    sym (length-take-le _ _ (omega (arith, z.1, c.distance_to-n.ensures)))

pub add_up-x-requires : goal.add_up-x-requires
add_up-x-requires c = let a = c.args in
    let z = zero-low a.to a.ram.now a.rom.now (length a.out.now) a.e.now (sym c.in_ok-render_number.ensures) in
    let room : 2 * c.distance_to-n.result ≤ length a.out.now = omega (arith, z.1, c.distance_to-n.ensures) in
    sym (length-take-le (2 * c.distance_to-n.result) a.out.now room)

pub returns : goal.returns
unfolding render summed
returns c = let low : (c.args.e.now.clock < 4294967296) × (c.args.to < 4294967296) = (omega arith, omega arith) in
    let a = c.args in
    let z = sym (ap (λ (k : ℕ). eqb k 0) c.in_ok-render_number.ensures) in
    let q = c.distance_to-n.ensures in
    let t = clock-there a.e.now a.to c.distance_to-n.result c.wrapping_add_u32.result (low).0 (low).1 q c.wrapping_add_u32.ensures.value in
    let x = c.add_up-x.ensures.state ∙ ap (λ (k : ℕ). played a.ram.now a.rom.now k a.e.now) q in
    record {
      answer = ap₂ (λ (y : Engine) (k : ℕ). done 0 (with_clock y k)) x t ∙ simp z;
      output = ap (λ o. o ++ drop (2 * c.distance_to-n.result) a.out.now) c.add_up-x.ensures.output
          ∙ ap (λ (k : ℕ). sums_of a.ram.now a.rom.now a.e.now k ++ drop (2 * k) a.out.now) q ∙ simp z;
    }
