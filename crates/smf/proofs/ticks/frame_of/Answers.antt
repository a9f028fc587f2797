-- `frame_of` meets its contract.
use lib.Dec.{lit<}
use mathlib.Core.Path.{◌≡◌, refl}
use native.Mathlib.Omega.{arith}
use native.Mathlib.Nat.{lt_of_le_of_lt}
use Rattle.smf.proofs.TicksLaws.{frame-in}
use Rattle.smf.specs.Ticks.{frame_of}
use Rattle.smf.proofs.ticks.frame_of.Goals as goal

pub returns-then-division-eq0 : goal.returns-then-division-eq0
unfolding frame_of
returns-then-division-eq0 c = let none : c.args.division ≡ 0 = c.if-division-eq0.true in
    let still : c.args.sum ≡ 0 = omega (arith, none) in
    rw (none, still) refl

pub overflow_cast-result-2 : goal.overflow_cast-result-2
unfolding frame_of
overflow_cast-result-2 c = record { fits = lt_of_le_of_lt (frame-in c.args.division c.args.sum c.requires) (lit< tt) }

pub returns : goal.returns
unfolding frame_of
returns c = refl
