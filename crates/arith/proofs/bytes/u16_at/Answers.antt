-- `arith::bytes::u16_at` meets its contract.
use Rattle.arith.specs.Bytes.{u16_at}
use Rattle.arith.proofs.bytes.u16_at.Goals as goal

pub returns : goal.returns
unfolding u16_at
returns c = cc
