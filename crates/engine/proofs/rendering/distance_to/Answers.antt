-- By wrapping subtraction.
use Rattle.std.proofs.Common.{arith}
use Rattle.engine.specs.Rendering.{distance}
use Rattle.engine.proofs.rendering.distance_to.Goals as goal

pub returns : goal.returns
unfolding distance
returns c = omega (arith, c.wrapping_sub_u32.ensures.value)
