-- A seat, a voice in it, and its bit.
use mathlib.Core.Path.{ap, ◌∙◌, ap₂}
use Prim.Native.Nat.{ℕ, ◌^◌}
use lib.Bits.{bit_or}
use Rattle.state.specs.declared.Engine.{Engine}
use Rattle.state.specs.Seats.{start_in}
use Rattle.events.specs.Starting.{Started, start}
use Rattle.events.proofs.starting.start_one.Goals as goal

pub returns : goal.returns
unfolding start
returns c = let b = c.args.b in
    let v = c.args.v in
    ap₂ made c.start_in.ensures c.insert.ensures.0
    ∙ ap (λ (i : ℕ). made (start_in i v b.engine) (bit_or b.mine (2 ^ i))) c.seat_of-i.ensures.0
  where
    made : Engine → ℕ → Started
    made x w = record { engine = x; mine = w }
