-- floor(z * g / 2^24) and its bound, by the signed expression.
use lib.Dec.{lit≤}
use mir.Facts.{to_z-of_z}
use mir.Syntax.{w32, w64}
use mathlib.Core.List.{List, [], ◌∷◌}
use Rattle.arith.proofs.WithinLaws.{w-nat, w_le, w-of}
use Rattle.arith.proofs.Expressions.{E, Var, var, mul, shr, given, back, within}
use Rattle.wave.specs.Lowering.{lowered_by}
use Rattle.wave.proofs.lowering.lower.Goals as goal

abbrev product : E
product = mul (var 0) (var 1)

abbrev whole : E
whole = shr product 24

pub returns : goal.returns
unfolding lowered_by
returns c = let env : List Var = given (w-of w32 c.ranges.z) ∷ given (w-nat c.requires) ∷ [] in
    let e = back w64 (env) whole tt in rw (to_z-of_z c.ranges.z) (e, rw e (w_le (within whole (env)) (lit≤ tt)))
