-- The tests are those of the definition, in its order; half the room is compared, so that no product can wrap.
use mathlib.Core.Path.{sym, ◌∙◌}
use native.Mathlib.Omega.{arith}
use Rattle.wave.proofs.PoursLaws.{pour-broken, pour-done, pour-short}
use Rattle.wave.proofs.pours.pour.Goals as goal

pub returns-then-is_broken : goal.returns-then-is_broken
returns-then-is_broken c = let answer = pour-broken c.args.numbers.now c.args.out.now (sym c.is_broken.ensures ∙ c.if-is_broken.true) in
    record { value = answer.0; output = answer.1 }

pub returns-then-out-numbers : goal.returns-then-out-numbers
returns-then-out-numbers c = let few = c.if-out-numbers.true in
    let answer = pour-short c.args.numbers.now c.args.out.now (sym c.is_broken.ensures ∙ c.if-is_broken.false) (omega (arith, few)) in
    record { value = answer.0; output = answer.1 }

pub returns : goal.returns
returns c = let enough = c.if-out-numbers.false in
    let answer = pour-done c.args.numbers.now c.args.out.now c.fill.new.out (sym c.is_broken.ensures ∙ c.if-is_broken.false) (omega (arith, enough)) c.fill.ensures in
    record { value = answer.0; output = answer.1 }
