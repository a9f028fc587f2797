-- A bend's cents, by the signed expression.
use mathlib.Core.List.{List, [], ◌∷◌}
use native.Mathlib.Omega.{arith}
use lib.IntN.{pos}
use mir.Syntax.{w32}
use Rattle.arith.proofs.Expressions.{E, Var, var, lit, sub, mul, shr, given, fits, back}
use Rattle.arith.proofs.WithinLaws.{w-nat}
use Rattle.curves.specs.Pitch.{bend_cents}
use Rattle.curves.proofs.pitch.bend_cents.Goals as goal

abbrev product : E
product = mul (sub (var 0) (lit (pos 8192))) (lit (pos 25))

pub returns : goal.returns
unfolding bend_cents
returns c = let env : List Var = given (w-nat {m = c.args.bend} {n = 65535} (omega arith)) ∷ [] in
    back w32 (env) (shr product 10) tt
