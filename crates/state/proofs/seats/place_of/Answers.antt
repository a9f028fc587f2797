-- A turn looks at place k: the slot stands there, or behind.
use mathlib.Core.Path.{◌≡◌, refl, sym, ◌∙◌}
use native.Mathlib.Omega.{arith}
use Prim.Native.Nat.{◌-◌}
use mathlib.Core.List.{map}
use lib.ListN.{length, length-map}
use Rattle.state.proofs.SlotsLaws.{map_at}
use Rattle.state.specs.Internal.Seats.{as_slot}
use Rattle.state.proofs.SeatsLaws.{first-le, first-here, first_on}
use Rattle.state.proofs.seats.place_of.Goals as goal

pub returns-then-order-k : goal.returns-then-order-k
returns-then-order-k c = let a = c.args in
    let xs = map as_slot a.order in
    let n : length xs ≡ 32 = simp length-map c.loop-k.invariant.0 in
    sym (first-here a.i xs c.loop-k.k (omega arith) c.loop-k.invariant.1 (map_at as_slot a.order c.loop-k.k 0 refl ∙ c.if-order-k.true))

pub loop-k-preserved : goal.loop-k-preserved
loop-k-preserved c = let a = c.args in
    let xs = map as_slot a.order in
    let n : length xs ≡ 32 = simp length-map c.loop-k.invariant.0 in
    let on = first_on a.i xs c.loop-k.k (omega arith) c.loop-k.invariant.1 (λ e. c.if-order-k.false (sym (map_at as_slot a.order c.loop-k.k 0 refl) ∙ e)) in
    (c.loop-k.invariant.0, omega (arith, on))

pub returns : goal.returns
returns c = let a = c.args in
    let xs = map as_slot a.order in
    let n : length xs ≡ 32 = simp length-map c.loop-k.invariant.0 in
    omega (arith, c.loop-k.invariant.1, first-le a.i xs)
