-- `bridges` meets its contract.
use native.Mathlib.Omega.{arith}
use Rattle.merge.specs.Bridges.{bridges_of}
use Rattle.merge.proofs.bridges.bridges.Goals as goal

pub returns-then-gap-eq0 : goal.returns-then-gap-eq0
unfolding bridges_of
returns-then-gap-eq0 c = omega arith

pub returns : goal.returns
unfolding bridges_of
returns c = omega arith
