-- A turn fills place k of the renewed order.
use borrow.Author.Rules.{rules}
use mathlib.Core.Path.{◌≡◌, refl, sym, ◌∙◌}
use native.Mathlib.Omega.{arith}
use Prim.Native.Nat.{◌-◌}
use mathlib.Core.List.{map}
use lib.ListN.{length, length-map, length-set}
use lib.Seq.{take_all}
use Rattle.state.specs.Seats.{renewed}
use Rattle.state.specs.Internal.Seats.{as_slot}
use Rattle.state.proofs.SeatsLaws.{renewed-length, fill-turn}
use Rattle.state.proofs.seats.renewed_order.Goals as goal

pub loop-k-preserved : goal.loop-k-preserved
loop-k-preserved c = let a = c.args in
    let xs = map as_slot a.order in
    let n : length (renewed a.i xs) ≡ 32 = renewed-length a.i xs (simp length-map c.loop-k.invariant.0) in (
      c.loop-k.invariant.0,
      simp length-set c.loop-k.invariant.1,
      fill-turn c.loop-k.out (renewed a.i xs) c.loop-k.k c.shifted.result (omega (arith, c.loop-k.invariant.1)) (omega arith) c.loop-k.invariant.2 c.shifted.ensures,
    )

pub returns : goal.returns
returns c = let a = c.args in
    let xs = map as_slot a.order in
    let n : length (renewed a.i xs) ≡ 32 = renewed-length a.i xs (simp length-map c.loop-k.invariant.0) in
    sym (take_all c.loop-k.k c.loop-k.out (omega (arith, c.loop-k.invariant.1))) ∙ c.loop-k.invariant.2 ∙ take_all c.loop-k.k (renewed a.i xs) (omega arith)
