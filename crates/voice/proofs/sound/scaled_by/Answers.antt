-- floor(x * gain / 2^16) and its bound, by the signed expression.
use lib.Dec.{lit≤}
use mir.Syntax.{w64}
use mathlib.Core.List.{List, [], ◌∷◌}
use Rattle.arith.proofs.WithinLaws.{w-nat, w_le}
use Rattle.arith.proofs.Expressions.{E, Var, var, mul, shr, given, fits, back, within}
use Rattle.voice.proofs.sound.scaled_by.Goals as goal

abbrev product : E
product = mul (var 0) (var 1)

abbrev whole : E
whole = shr product 16

pub overflow_mul-result : goal.overflow_mul-result
overflow_mul-result c = let env : List Var = given c.requires.0 ∷ given (w-nat c.requires.1) ∷ [] in
    fits w64 (env) product tt

pub returns : goal.returns
returns c = let env : List Var = given c.requires.0 ∷ given (w-nat c.requires.1) ∷ [] in
    let e = back w64 (env) whole tt in (e, rw e (w_le (within whole (env)) (lit≤ tt)))
