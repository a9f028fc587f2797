-- None up to 2^23; above it, the least whose gain is at most 2^47 divided by the size.
use mathlib.Core.Path.{◌∙◌}
use Rattle.wave.proofs.LoweringLaws.{none_needed, some-needed}
use Rattle.wave.proofs.lowering.attenuation_for.Goals as goal

pub returns-then-loudest-le8388608 : goal.returns-then-loudest-le8388608
returns-then-loudest-le8388608 c = none_needed c.args.loudest c.if-loudest-le8388608.true

pub returns : goal.returns
returns c = c.least_cb.ensures ∙ some-needed c.args.loudest c.if-loudest-le8388608.false
