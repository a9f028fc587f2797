-- The remainder grows by 1,000 a frame.
use Prim.Native.Nat.{◌<◌, ◌*◌}
use native.Mathlib.Nat.{mod-lt}
use native.Mathlib.Omega.{arith}
use Rattle.voice.proofs.CalmLaws.{until-steady}
use Rattle.voice.proofs.calm.until_change.Goals as goal

pub overflow_sub-result : goal.overflow_sub-result
overflow_sub-result c = let a = c.args in let z : 0 < a.n = omega arith in omega (arith, mod-lt (1000 * a.t) z)

pub returns : goal.returns
returns c = let a = c.args in let z : 0 < a.n = omega arith in until-steady a.n a.t z
