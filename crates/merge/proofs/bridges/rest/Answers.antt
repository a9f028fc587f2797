-- `rest` meets its contract.
use native.Mathlib.Omega.{arith}
use Rattle.merge.specs.Bridges.{rest_of}
use Rattle.merge.proofs.BridgesLaws.{bridges-most, rest-small}
use Rattle.merge.proofs.bridges.rest.Goals as goal

pub overflow_sub-result : goal.overflow_sub-result
overflow_sub-result c = omega (arith, c.bridges.ensures.0, bridges-most c.args.gap)

pub overflow_cast-result : goal.overflow_cast-result
unfolding rest_of
overflow_cast-result c = let r = rest-small c.args.gap in rw c.bridges.ensures.0 (omega (arith, r))

pub returns : goal.returns
unfolding rest_of
returns c = let r = rest-small c.args.gap in rw c.bridges.ensures.0 (omega (arith, r))
