-- `tune` meets its contract.
use lib.Dec.{lit<}
use lib.IntN.{ℤ, pos}
use mathlib.Core.List.{List, [], ◌∷◌}
use mathlib.Core.Path.{◌≡◌, refl}
use mir.Facts.{to_z-of_z}
use mir.Syntax.{w8, w32, w64}
use native.Mathlib.Omega.{arith}
use Prim.Native.Nat.{ℕ, ◌<◌}
use Rattle.arith.specs.Within.{Within}
use Rattle.arith.proofs.Expressions.{E, var, lit, add, sub, mul, Var, given, fits, back, within}
use Rattle.arith.proofs.WithinLaws.{w-nat, w-of, w_fits, w-back}
use Rattle.totals.proofs.settings.tune.Goals as goal

abbrev scaled : E
scaled = mul (sub (var 0) (var 1)) (var 2)

abbrev steps : E
steps = add scaled (mul (lit (pos 100)) (var 3))

abbrev total : E
total = add steps (var 4)

abbrev whole : E
whole = add total (var 5)

key : {n : ℕ} {z : ℤ} → z ≡ pos n → n < 256 → Within z 255
key {n} e h = rw e (w-nat {m = n} {n = 255} (omega arith))

pub overflow_add-result : goal.overflow_add-result
overflow_add-result c = let env : List Var = given (key c.from.ensures (omega arith)) ∷ given (key c.from-2.ensures (omega arith)) ∷ given c.requires.0 ∷ given c.requires.1 ∷ [] in
    fits w64 env steps tt

pub overflow_add-result-2 : goal.overflow_add-result-2
overflow_add-result-2 c = let env : List Var = given (key c.from.ensures (omega arith)) ∷ given (key c.from-2.ensures (omega arith)) ∷ given c.requires.0 ∷ given c.requires.1 ∷ given c.requires.2 ∷ [] in
    fits w64 env total tt

pub overflow_add-result-3 : goal.overflow_add-result-3
overflow_add-result-3 c = let e : Within c.from-3.result 128 = rw (c.from-3.ensures, to_z-of_z c.ranges.correction) (w-of w8 c.ranges.correction) in
    let env : List Var = given (key c.from.ensures (omega arith)) ∷ given (key c.from-2.ensures (omega arith)) ∷ given c.requires.0 ∷ given c.requires.1 ∷ given c.requires.2 ∷ given e ∷ [] in
    fits w64 env whole tt

pub overflow_cast-result : goal.overflow_cast-result
overflow_cast-result c = let e : Within c.from-3.result 128 = rw (c.from-3.ensures, to_z-of_z c.ranges.correction) (w-of w8 c.ranges.correction) in
    let env : List Var = given (key c.from.ensures (omega arith)) ∷ given (key c.from-2.ensures (omega arith)) ∷ given c.requires.0 ∷ given c.requires.1 ∷ given c.requires.2 ∷ given e ∷ [] in
    rw (back w64 env whole tt) (w_fits w32 (within whole env) (lit< tt))

pub returns : goal.returns
returns c = let e : Within c.from-3.result 128 = rw (c.from-3.ensures, to_z-of_z c.ranges.correction) (w-of w8 c.ranges.correction) in
    let env : List Var = given (key c.from.ensures (omega arith)) ∷ given (key c.from-2.ensures (omega arith)) ∷ given c.requires.0 ∷ given c.requires.1 ∷ given c.requires.2 ∷ given e ∷ [] in
    rw (back w64 env whole tt, w-back w32 (within whole env) (lit< tt)) (rw (c.from.ensures, c.from-2.ensures, c.from-3.ensures, to_z-of_z c.ranges.correction) refl)
