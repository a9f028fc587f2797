-- The shifted product, by the signed expression.
use mathlib.Core.List.{List, [], ◌∷◌}
use mathlib.Core.Path.{refl}
use lib.Dec.{lit<, lit≤}
use lib.IntN.{pos}
use mir.Syntax.{w32, w64}
use Rattle.arith.proofs.Expressions.{E, Var, var, lit, add, mul, shr, given, fits, back, within}
use Rattle.arith.proofs.WithinLaws.{w-nat, w_le, w_fits, w-back}
use Rattle.voice.specs.Internal.Sides.{part}
use Rattle.voice.proofs.sides.part_of.Goals as goal

abbrev sum : E
sum = add (mul (var 0) (var 1)) (lit (pos 16777216))

abbrev whole : E
whole = shr sum 38

pub overflow_mul-result : goal.overflow_mul-result
overflow_mul-result c = let env : List Var = given c.requires.0 ∷ given (w-nat c.requires.1) ∷ [] in
    fits w64 (env) (mul (var 0) (var 1)) tt

pub overflow_add-result : goal.overflow_add-result
overflow_add-result c = let env : List Var = given c.requires.0 ∷ given (w-nat c.requires.1) ∷ [] in
    fits w64 (env) sum tt

pub overflow_cast-result-2 : goal.overflow_cast-result-2
overflow_cast-result-2 c = let env : List Var = given c.requires.0 ∷ given (w-nat c.requires.1) ∷ [] in
    rw (back w64 (env) whole tt) (w_fits w32 (within whole (env)) (lit< tt))

pub returns : goal.returns
unfolding part
returns c = let env : List Var = given c.requires.0 ∷ given (w-nat c.requires.1) ∷ [] in
    rw (back w64 (env) whole tt, w-back w32 (within whole (env)) (lit< tt)) (refl, w_le (within whole (env)) (lit≤ tt))
