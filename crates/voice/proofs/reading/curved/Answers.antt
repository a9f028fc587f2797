-- The sum of four points, by the signed expression.
use mathlib.Core.List.{List, [], ◌∷◌}
use lib.Dec.{lit≤}
use lib.IntN.{pos}
use mir.Syntax.{w64}
use Rattle.arith.proofs.Expressions.{E, var, lit, add, sub, mul, shr, Var, given, fits, back, within}
use Rattle.arith.proofs.WithinLaws.{w_le}
use Rattle.voice.proofs.reading.curved.Goals as goal

abbrev a : E
a = sub (var 1) (var 0)

abbrev b : E
b = sub (var 2) (var 1)

abbrev c3 : E
c3 = sub (var 3) (var 2)

abbrev three : E
three = sub (sub c3 b) (sub b a)

abbrev two : E
two = sub (sub b a) three

abbrev upper : E
upper = add (mul three (var 4)) (mul two (lit (pos 4096)))

abbrev lower : E
lower = add (mul upper (var 4)) (mul (add a b) (lit (pos 16777216)))

abbrev whole : E
whole = add (var 1) (shr (mul lower (var 4)) 37)

pub overflow_sub-a : goal.overflow_sub-a
overflow_sub-a c = let env : List Var = given c.requires.points.0 ∷ given c.requires.points.1 ∷ given c.requires.points.2 ∷ given c.requires.points.3 ∷ given c.requires.part ∷ [] in
    fits w64 (env) a tt

pub overflow_sub-b : goal.overflow_sub-b
overflow_sub-b c = let env : List Var = given c.requires.points.0 ∷ given c.requires.points.1 ∷ given c.requires.points.2 ∷ given c.requires.points.3 ∷ given c.requires.part ∷ [] in
    fits w64 (env) b tt

pub overflow_sub-c : goal.overflow_sub-c
overflow_sub-c c = let env : List Var = given c.requires.points.0 ∷ given c.requires.points.1 ∷ given c.requires.points.2 ∷ given c.requires.points.3 ∷ given c.requires.part ∷ [] in
    fits w64 (env) c3 tt

pub overflow_sub-three : goal.overflow_sub-three
overflow_sub-three c = let env : List Var = given c.requires.points.0 ∷ given c.requires.points.1 ∷ given c.requires.points.2 ∷ given c.requires.points.3 ∷ given c.requires.part ∷ [] in
    fits w64 (env) (sub c3 b) tt

pub overflow_sub-three-2 : goal.overflow_sub-three-2
overflow_sub-three-2 c = let env : List Var = given c.requires.points.0 ∷ given c.requires.points.1 ∷ given c.requires.points.2 ∷ given c.requires.points.3 ∷ given c.requires.part ∷ [] in
    fits w64 (env) (sub b a) tt

pub overflow_sub-three-3 : goal.overflow_sub-three-3
overflow_sub-three-3 c = let env : List Var = given c.requires.points.0 ∷ given c.requires.points.1 ∷ given c.requires.points.2 ∷ given c.requires.points.3 ∷ given c.requires.part ∷ [] in
    fits w64 (env) three tt

pub overflow_sub-two : goal.overflow_sub-two
overflow_sub-two c = let env : List Var = given c.requires.points.0 ∷ given c.requires.points.1 ∷ given c.requires.points.2 ∷ given c.requires.points.3 ∷ given c.requires.part ∷ [] in
    fits w64 (env) (sub b a) tt

pub overflow_sub-two-2 : goal.overflow_sub-two-2
overflow_sub-two-2 c = let env : List Var = given c.requires.points.0 ∷ given c.requires.points.1 ∷ given c.requires.points.2 ∷ given c.requires.points.3 ∷ given c.requires.part ∷ [] in
    fits w64 (env) two tt

pub overflow_mul-result : goal.overflow_mul-result
overflow_mul-result c = let env : List Var = given c.requires.points.0 ∷ given c.requires.points.1 ∷ given c.requires.points.2 ∷ given c.requires.points.3 ∷ given c.requires.part ∷ [] in
    fits w64 (env) (mul three (var 4)) tt

pub overflow_mul-result-2 : goal.overflow_mul-result-2
overflow_mul-result-2 c = let env : List Var = given c.requires.points.0 ∷ given c.requires.points.1 ∷ given c.requires.points.2 ∷ given c.requires.points.3 ∷ given c.requires.part ∷ [] in
    fits w64 (env) (mul two (lit (pos 4096))) tt

pub overflow_add-result : goal.overflow_add-result
overflow_add-result c = let env : List Var = given c.requires.points.0 ∷ given c.requires.points.1 ∷ given c.requires.points.2 ∷ given c.requires.points.3 ∷ given c.requires.part ∷ [] in
    fits w64 (env) upper tt

pub overflow_mul-result-3 : goal.overflow_mul-result-3
overflow_mul-result-3 c = let env : List Var = given c.requires.points.0 ∷ given c.requires.points.1 ∷ given c.requires.points.2 ∷ given c.requires.points.3 ∷ given c.requires.part ∷ [] in
    fits w64 (env) (mul upper (var 4)) tt

pub overflow_add-result-2 : goal.overflow_add-result-2
overflow_add-result-2 c = let env : List Var = given c.requires.points.0 ∷ given c.requires.points.1 ∷ given c.requires.points.2 ∷ given c.requires.points.3 ∷ given c.requires.part ∷ [] in
    fits w64 (env) (add a b) tt

pub overflow_mul-result-4 : goal.overflow_mul-result-4
overflow_mul-result-4 c = let env : List Var = given c.requires.points.0 ∷ given c.requires.points.1 ∷ given c.requires.points.2 ∷ given c.requires.points.3 ∷ given c.requires.part ∷ [] in
    fits w64 (env) (mul (add a b) (lit (pos 16777216))) tt

pub overflow_add-result-3 : goal.overflow_add-result-3
overflow_add-result-3 c = let env : List Var = given c.requires.points.0 ∷ given c.requires.points.1 ∷ given c.requires.points.2 ∷ given c.requires.points.3 ∷ given c.requires.part ∷ [] in
    fits w64 (env) lower tt

pub overflow_mul-result-5 : goal.overflow_mul-result-5
overflow_mul-result-5 c = let env : List Var = given c.requires.points.0 ∷ given c.requires.points.1 ∷ given c.requires.points.2 ∷ given c.requires.points.3 ∷ given c.requires.part ∷ [] in
    fits w64 (env) (mul lower (var 4)) tt

pub overflow_add-result-4 : goal.overflow_add-result-4
overflow_add-result-4 c = let env : List Var = given c.requires.points.0 ∷ given c.requires.points.1 ∷ given c.requires.points.2 ∷ given c.requires.points.3 ∷ given c.requires.part ∷ [] in
    fits w64 (env) whole tt

pub returns : goal.returns
returns c = let env : List Var = given c.requires.points.0 ∷ given c.requires.points.1 ∷ given c.requires.points.2 ∷ given c.requires.points.3 ∷ given c.requires.part ∷ [] in
    let e = back w64 (env) whole tt in (e, rw e (w_le (within whole (env)) (lit≤ tt)))
