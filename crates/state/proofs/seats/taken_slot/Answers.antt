-- A turn looks at place k of the order, from the oldest on.
use mathlib.Core.Path.{sym, ap, ◌∙◌, ap₂}
use native.Mathlib.Omega.{arith}
use Prim.Native.Nat.{ℕ, ◌-◌}
use mathlib.Core.Bool.{cond}
use mathlib.Core.List.{List}
use lib.Dec.{ltb}
use lib.ListN.{length-map}
use lib.Seq.{take_all}
use Rattle.state.specs.Seats.{order_of, claim, least_by, taken}
use Rattle.state.proofs.SeatsLaws.{least-none, least-turn}
use Rattle.state.proofs.seats.taken_slot.Goals as goal

pub loop-k-init : goal.loop-k-init
loop-k-init c = let a = c.args in
    (simp length-map (c.well_formed.0.1.1.1.1.1.0.1.0.1), sym (least-none (claim a.e a.mine) c.aged-b.result (order_of a.e)), c.aged-b.ensures.1)

pub loop-k-preserved : goal.loop-k-preserved
loop-k-preserved c = let a = c.args in
    let f = claim a.e a.mine in
    let xs = order_of a.e in
    let two = ap₂ (λ (x b : ℕ). cond (ltb (f x) (f b)) x b) c.aged-x.ensures.0 c.loop-k.invariant.1 in (
      c.loop-k.invariant.0,
      c.sooner-b.ensures.0 ∙ two ∙ sym (least-turn f c.aged-b.result xs c.loop-k.k (omega (arith, c.loop-k.invariant.0))),
      c.sooner-b.ensures.1,
    )

pub returns : goal.returns
unfolding taken
returns c = let a = c.args in
    let f = claim a.e a.mine in
    let xs = order_of a.e in (
      c.loop-k.invariant.1
          ∙ ap (λ (ys : List ℕ). least_by f c.aged-b.result ys) (take_all c.loop-k.k xs (omega (arith, c.loop-k.invariant.0)))
          ∙ ap (λ (b : ℕ). least_by f b xs) c.aged-b.ensures.0,
      c.loop-k.invariant.2,
    )
