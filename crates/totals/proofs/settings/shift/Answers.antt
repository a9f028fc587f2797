-- `shift` meets its contract.
use lib.Dec.{lit<}
use lib.IntN.{pos}
use mathlib.Core.Path.{refl}
use mathlib.Core.List.{List, [], ◌∷◌}
use mir.Syntax.{w32, w64}
use native.Mathlib.Omega.{arith}
use Rattle.arith.specs.Within.{Within}
use Rattle.arith.proofs.Expressions.{E, var, lit, add, sub, mul, Var, given, fits, back, within}
use Rattle.arith.proofs.WithinLaws.{w-nat, w_fits, w-back}
use Rattle.totals.proofs.settings.shift.Goals as goal

abbrev part : E
part = mul (sub (lit (pos 60)) (var 1)) (var 2)

abbrev whole : E
whole = add (var 0) part

pub overflow_add-result : goal.overflow_add-result
overflow_add-result c = let k : Within c.from.result 255 = rw c.from.ensures (w-nat {m = c.args.k} {n = 255} (omega arith)) in
    let env : List Var = given c.requires.0 ∷ given k ∷ given c.requires.1 ∷ [] in
    fits w64 (env) whole tt

pub overflow_cast-result : goal.overflow_cast-result
overflow_cast-result c = let k : Within c.from.result 255 = rw c.from.ensures (w-nat {m = c.args.k} {n = 255} (omega arith)) in
    let env : List Var = given c.requires.0 ∷ given k ∷ given c.requires.1 ∷ [] in
    rw (back w64 (env) whole tt) (w_fits w32 (within whole (env)) (lit< tt))

pub returns : goal.returns
returns c = let k : Within c.from.result 255 = rw c.from.ensures (w-nat {m = c.args.k} {n = 255} (omega arith)) in
    let env : List Var = given c.requires.0 ∷ given k ∷ given c.requires.1 ∷ [] in
    rw (back w64 (env) whole tt, w-back w32 (within whole (env)) (lit< tt)) (rw c.from.ensures refl)
