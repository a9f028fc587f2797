-- `sum` meets its contract.
use mir.Syntax.{w64}
use lib.IntN.{pos}
use lib.Dec.{lit≤}
use mathlib.Core.List.{List, [], ◌∷◌}
use Rattle.arith.proofs.WithinLaws.{w_le}
use Rattle.arith.proofs.Expressions.{E, var, lit, add, mul, Var, given, fits, back, within}
use Rattle.records.proofs.windows.sum.Goals as goal

abbrev fine : E
fine = add (var 0) (var 1)

abbrev product : E
product = mul (var 2) (lit (pos 32768))

abbrev whole : E
whole = add fine product

pub returns : goal.returns
returns c = let env : List Var = given c.requires.0 ∷ given c.requires.1 ∷ given c.requires.2 ∷ [] in
    let e = back w64 (env) whole tt in (e, rw e (w_le (within whole (env)) (lit≤ tt)))
