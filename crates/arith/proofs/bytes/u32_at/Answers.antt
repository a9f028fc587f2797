-- `arith::bytes::u32_at` meets its contract.
use Rattle.arith.specs.Bytes.{u32_at}
use Rattle.arith.proofs.bytes.u32_at.Goals as goal

pub returns : goal.returns
unfolding u32_at
returns c = cc
