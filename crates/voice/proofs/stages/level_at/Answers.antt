-- The attack's level, by the lesser of two numbers; with no frames, by a division by 0.
use Prim.Native.Nat.{min, ℕ, ◌*◌, ◌/◌}
use mathlib.Core.Path.{sym, ap, ◌∙◌}
use native.Mathlib.Nat.{div-zero}
use native.Mathlib.Omega.{arith}
use Rattle.voice.specs.Stages.{level_at}
use Rattle.voice.proofs.stages.level_at.Goals as goal

pub returns-then-n-eq0 : goal.returns-then-n-eq0
unfolding level_at
returns-then-n-eq0 c = let a = c.args in
    (sym (ap (λ (k : ℕ). min (16777216 * a.t / k) 16777216) c.if-n-eq0.true ∙ ap (λ (k : ℕ). min k 16777216) (div-zero (16777216 * a.t))), omega arith)

pub returns : goal.returns
unfolding level_at
returns c = (c.min.ensures, omega (arith, c.min.ensures))
