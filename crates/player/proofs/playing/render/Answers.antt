-- Refused by its tests, else played on.
use Rattle.std.proofs.Common.{ℕ, ◌*◌, eqb, ◌++◌, length, drop, sym, ap, ◌∙◌, arith}
use Rattle.state.proofs.AnswersLaws.{refusal-numbered}
use Rattle.engine.proofs.RenderingLaws.{zero-low}
use Rattle.player.specs.Playing.{opened, reported, performed, numbers, answered, sounded_into}
use Rattle.player.proofs.playing.render.Goals as goal

pub returns-in-Err : goal.returns-in-Err
unfolding answered sounded_into
returns-in-Err c = let q = c.in-Err.ensures in
    let z = sym (ap (λ (k : ℕ). eqb k 0) q) ∙ refusal-numbered c.in-Err.refusal in
    record { answer = rw (c.number.ensures, q) (simp z); output = simp z }

pub play_on-x-requires : goal.play_on-x-requires
play_on-x-requires c = let a = c.args in
    let z = zero-low a.to a.ram.now a.rom.now (length a.out.now) a.p.engine (sym c.in-Ok.ensures) in
    (omega (arith, z.0, c.distance_to-n.ensures), omega (arith, z.1, c.distance_to-n.ensures))

pub returns-in-Ok : goal.returns-in-Ok
unfolding answered sounded_into
returns-in-Ok c = let a = c.args in
    let z = sym (ap (λ (k : ℕ). eqb k 0) c.in-Ok.ensures) in
    let q = c.distance_to-n.ensures in
    let f = a.file.now in
    let b = a.bank.now in
    record { answer = ap reported (c.play_on-x.ensures.tally ∙ ap (λ (k : ℕ). performed f b a.ram.now a.rom.now k (opened a.p)) q) ∙ simp z; output = c.play_on-x.ensures.output ∙ ap (λ (k : ℕ). numbers f b a.ram.now a.rom.now k (opened a.p) ++ drop (2 * k) a.out.now) q ∙ simp z }
