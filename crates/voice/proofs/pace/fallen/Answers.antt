use mathlib.Core.Path.{refl}
use native.Mathlib.Omega.{arith}
use Rattle.voice.proofs.pace.fallen.Goals as goal

-- src/pace.rt:125:1
pub returns : goal.returns
returns c = (refl, omega (arith, c.requires, c.ranges.from))
