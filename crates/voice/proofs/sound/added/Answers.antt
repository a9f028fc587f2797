-- By the signed expression.
use mathlib.Core.Path.{refl}
use mathlib.Core.List.{List, [], ◌∷◌}
use native.Mathlib.Omega.{arith}
use lib.Dec.{lit<, lit≤}
use mir.Facts.{to_z-of_z}
use mir.Syntax.{w32, w64}
use Rattle.arith.proofs.WithinLaws.{w-nat, w_le, w-of, w_fits}
use Rattle.arith.proofs.Expressions.{E, Var, var, add, given, fits, back, within}
use Rattle.voice.proofs.sound.added.Goals as goal

abbrev whole : E
whole = add (add (var 0) (var 1)) (var 2)

pub overflow_cast-result : goal.overflow_cast-result
overflow_cast-result c = rw (to_z-of_z c.ranges.a) (w_fits w64 (w-of w32 c.ranges.a) (lit< tt))

pub overflow_add-result : goal.overflow_add-result
overflow_add-result c = let env : List Var = given (w-of w32 c.ranges.a) ∷ given (w-nat {m = c.args.x} {n = 65535} (omega arith)) ∷ given (w-nat {m = c.args.y} {n = 65535} (omega arith)) ∷ [] in
    rw (to_z-of_z c.ranges.a) (fits w64 (env) (add (var 0) (var 1)) tt)

pub overflow_add-result-2 : goal.overflow_add-result-2
overflow_add-result-2 c = let env : List Var = given (w-of w32 c.ranges.a) ∷ given (w-nat {m = c.args.x} {n = 65535} (omega arith)) ∷ given (w-nat {m = c.args.y} {n = 65535} (omega arith)) ∷ [] in
    rw (to_z-of_z c.ranges.a) (fits w64 (env) whole tt)

pub returns : goal.returns
returns c = let env : List Var = given (w-of w32 c.ranges.a) ∷ given (w-nat {m = c.args.x} {n = 65535} (omega arith)) ∷ given (w-nat {m = c.args.y} {n = 65535} (omega arith)) ∷ [] in
    let e = back w64 (env) whole tt in rw (to_z-of_z c.ranges.a, e) (refl, w_le (within whole (env)) (lit≤ tt))
