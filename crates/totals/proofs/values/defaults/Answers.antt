-- `defaults` meets its contract.
use mathlib.Core.Path.{refl}
use Rattle.arith.specs.Holds.{between}
use Rattle.totals.specs.Values.{default_of}
use Rattle.totals.proofs.values.defaults.Goals as goal

pub returns : goal.returns
unfolding default_of between
returns c = refl
