-- Two sums of what 31 voices add and what one more adds.
use mathlib.Core.Path.{◌≡◌}
use Prim.Native.Nat.{ℕ, ◌+◌, ◌*◌}
use mathlib.Core.List.{List}
use native.Mathlib.Numerals.{add-one}
use native.Mathlib.Omega.{arith}
use lib.IntN.{ℤ, pos, ◌+ℤ◌}
use lib.ListN.{get_or, set}
use lib.Seq.{get_or-set_other}
use mir.Syntax.{w32}
use mir.Val.{SFits, to_z, of_z}
use Rattle.voice.proofs.SumsLaws.{add-bits, pair-at}
use Rattle.voice.proofs.stretch.add_pair.Goals as goal

pub overflow_add-a : goal.overflow_add-a
overflow_add-a c = let ys : List ℤ = c.args.acc.now in
    let i : ℕ = 2 * c.args.k in
    let left : ℤ = c.args.left in
    let sum0 : (to_z w32 (of_z w32 (get_or ys i (pos 0))) +ℤ to_z w32 (of_z w32 left) ≡ get_or ys i (pos 0) +ℤ left)
    × SFits w32 (get_or ys i (pos 0) +ℤ left) × (to_z w32 (of_z w32 (get_or ys i (pos 0) +ℤ left)) ≡ get_or ys i (pos 0) +ℤ left) = add-bits (get_or ys i (pos 0)) left (c.requires.sums.1 i (omega arith)) c.requires.pair.0 in
    rw (sum0).0 (sum0).1

pub overflow_add-b-2 : goal.overflow_add-b-2
overflow_add-b-2 c = let ys : List ℤ = c.args.acc.now in
    let i : ℕ = 2 * c.args.k in
    let left : ℤ = c.args.left in
    let sum0 : (to_z w32 (of_z w32 (get_or ys i (pos 0))) +ℤ to_z w32 (of_z w32 left) ≡ get_or ys i (pos 0) +ℤ left)
    × SFits w32 (get_or ys i (pos 0) +ℤ left) × (to_z w32 (of_z w32 (get_or ys i (pos 0) +ℤ left)) ≡ get_or ys i (pos 0) +ℤ left) = add-bits (get_or ys i (pos 0)) left (c.requires.sums.1 i (omega arith)) c.requires.pair.0 in
    let right : ℤ = c.args.right in
    let sum1 : (to_z w32 (of_z w32 (get_or ys (i + 1) (pos 0))) +ℤ to_z w32 (of_z w32 right) ≡ get_or ys (i + 1) (pos 0) +ℤ right)
    × SFits w32 (get_or ys (i + 1) (pos 0) +ℤ right) × (to_z w32 (of_z w32 (get_or ys (i + 1) (pos 0) +ℤ right)) ≡ get_or ys (i + 1) (pos 0) +ℤ right) = add-bits (get_or ys (i + 1) (pos 0)) right (c.requires.sums.1 (i + 1) (omega arith)) c.requires.pair.1 in
    let read1 : get_or (set ys i (get_or ys i (pos 0) +ℤ left)) (i + 1) (pos 0) ≡ get_or ys (i + 1) (pos 0) = get_or-set_other ys i (i + 1) (get_or ys i (pos 0) +ℤ left) (pos 0) (λ e. omega arith) in
    rw ((sum0).0, (sum0).2, read1, (sum1).0) (sum1).1

pub returns : goal.returns
returns c = let ys : List ℤ = c.args.acc.now in
    let i : ℕ = 2 * c.args.k in
    let left : ℤ = c.args.left in
    let right : ℤ = c.args.right in
    let sum0 : (to_z w32 (of_z w32 (get_or ys i (pos 0))) +ℤ to_z w32 (of_z w32 left) ≡ get_or ys i (pos 0) +ℤ left)
    × SFits w32 (get_or ys i (pos 0) +ℤ left) × (to_z w32 (of_z w32 (get_or ys i (pos 0) +ℤ left)) ≡ get_or ys i (pos 0) +ℤ left) = add-bits (get_or ys i (pos 0)) left (c.requires.sums.1 i (omega arith)) c.requires.pair.0 in
    let sum1 : (to_z w32 (of_z w32 (get_or ys (i + 1) (pos 0))) +ℤ to_z w32 (of_z w32 right) ≡ get_or ys (i + 1) (pos 0) +ℤ right)
    × SFits w32 (get_or ys (i + 1) (pos 0) +ℤ right) × (to_z w32 (of_z w32 (get_or ys (i + 1) (pos 0) +ℤ right)) ≡ get_or ys (i + 1) (pos 0) +ℤ right) = add-bits (get_or ys (i + 1) (pos 0)) right (c.requires.sums.1 (i + 1) (omega arith)) c.requires.pair.1 in
    let read1 : get_or (set ys i (get_or ys i (pos 0) +ℤ left)) (i + 1) (pos 0) ≡ get_or ys (i + 1) (pos 0) = get_or-set_other ys i (i + 1) (get_or ys i (pos 0) +ℤ left) (pos 0) (λ e. omega arith) in
    rw ((sum0).0, (sum0).2, read1, (sum1).0, (sum1).2) (pair-at (i) (i + 1) (left) (right) (ys) (add-one (i)) c.requires.sums.0)
