-- `arith::bytes::byte` meets its contract.
use native.Mathlib.Omega.{arith}
use mathlib.Core.Path.{refl, sym}
use lib.ListN.{get_or-eq_default}
use Rattle.arith.specs.Bytes.{u8_at}
use Rattle.arith.proofs.bytes.byte.Goals as goal

pub returns-then-at-b : goal.returns-then-at-b
unfolding u8_at
returns-then-at-b c = refl

pub returns : goal.returns
unfolding u8_at
returns c = sym (get_or-eq_default c.args.b.now 0 {n = c.args.at} (omega arith))
