-- The sums of all voices, then the output made of them.
use Rattle.std.proofs.Common.{◌*◌, ◌≤◌, List, ◌++◌, drop, replicate, ℤ, pos, ap, ◌∙◌, le_refl, arith, rules}
use lib.Ieee.{Float}
use Rattle.voice.proofs.SumsLaws.{zeros-small}
use Rattle.engine.specs.Internal.Sums.{mixed_to}
use Rattle.engine.proofs.RenderingLaws.{output-mixed, zeros-at}
use Rattle.engine.proofs.rendering.play.Goals as goal

pub run_all-x-requires : goal.run_all-x-requires
run_all-x-requires c = record { sums = (search rules, zeros-small 8192) }

pub returns : goal.returns
returns c = let a = c.args in
    let h : 2 * a.n ≤ 8192 = omega (arith, c.requires.0) in
    record {
      state = c.run_all-x.ensures.state;
      output = c.mix_all.ensures
          ∙ ap (λ (q : List ℤ). mixed_to a.n q ++ drop (2 * a.n) a.out.now) c.run_all-x.ensures.sums
          ∙ ap (λ (q : List Float). q ++ drop (2 * a.n) a.out.now)
          (output-mixed a.ram.now a.rom.now a.e a.n (replicate 8192 (pos 0)) h (zeros-at 8192) a.n (le_refl a.n));
    }
