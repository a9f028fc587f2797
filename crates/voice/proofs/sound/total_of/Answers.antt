-- The attenuation, at least 0: the sum by the signed expression, each return by its law of `least0`.
use native.Mathlib.Nat.{lt_of_le_of_lt, le_of_lt}
use lib.Dec.{lit<}
use mir.Syntax.{w64}
use mathlib.Core.List.{List, [], ◌∷◌}
use mathlib.Core.Path.{sym}
use Rattle.arith.proofs.Expressions.{val, E, Var, var, add, given, fits, back, within}
use Rattle.voice.proofs.SoundLaws.{least0-below, least0-above, non_neg-above}
use Rattle.arith.proofs.WithinLaws.{w-nat}
use Rattle.voice.proofs.sound.total_of.Goals as goal

abbrev sum : E
sum = add (var 0) (var 1)

pub overflow_add-a : goal.overflow_add-a
overflow_add-a c = let env : List Var = given c.requires.0 ∷ given (w-nat (le_of_lt c.requires.1)) ∷ [] in
    fits w64 (env) sum tt

pub overflow_cast-result : goal.overflow_cast-result
overflow_cast-result c = let env : List Var = given c.requires.0 ∷ given (w-nat (le_of_lt c.requires.1)) ∷ [] in
    let e = back w64 (env) sum tt in
    let z = val sum (env) in (
      rw e (non_neg-above z (rw e at c.if-a-lt0.false)),
      rw e (record { fits = lt_of_le_of_lt (within sum (env)).within (lit< tt) }),
    )

pub returns-then-a-lt0 : goal.returns-then-a-lt0
returns-then-a-lt0 c = let env : List Var = given c.requires.0 ∷ given (w-nat (le_of_lt c.requires.1)) ∷ [] in
    let e = back w64 (env) sum tt in sym (least0-below (val sum (env)) (rw e at c.if-a-lt0.true))

pub returns-else-a-lt0 : goal.returns-else-a-lt0
returns-else-a-lt0 c = let env : List Var = given c.requires.0 ∷ given (w-nat (le_of_lt c.requires.1)) ∷ [] in
    let e = back w64 (env) sum tt in rw e (least0-above (val sum (env)) (rw e at c.if-a-lt0.false))
