-- The record stored, its bit set, and the slot the newest.
use mathlib.Core.Path.{◌≡◌, ap, ◌∙◌}
use native.Mathlib.Omega.{arith}
use Prim.Native.Nat.{ℕ, ◌^◌}
use mathlib.Core.List.{List}
use lib.ListN.{length, length-map, set}
use Rattle.voice.specs.Changes.{sounds}
use Rattle.state.specs.Slots.{slots_of, with_slots, with_order}
use Rattle.state.specs.Seats.{start_in}
use Rattle.state.proofs.SeatsLaws.{seated}
use Rattle.state.proofs.seats.start_in.Goals as goal

pub returns : goal.returns
unfolding start_in
returns c = let e = c.args.e in
    let i = c.args.i in
    let n : length e.voices ≡ 32 = c.well_formed.0.1.1.0.1.0.1 in
    let p : 2 ^ length e.voices ≡ 4294967296 = ap (λ (k : ℕ). 2 ^ k) n in
    seated e i c.insert.result c.args.v c.renewed_order-new.result (omega arith) (omega arith) c.insert.ensures.0
    ∙ ap (λ (o : List ℕ). with_order (with_slots e (set (slots_of e) i (sounds c.args.v))) o) c.renewed_order-new.ensures
