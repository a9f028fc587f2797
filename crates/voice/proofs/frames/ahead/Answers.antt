-- As many as are calm, and no more than asked.
use mathlib.Core.Path.{refl}
use native.Mathlib.Nat.{not-suc-le-zero}
use native.Mathlib.Omega.{arith}
use Rattle.voice.proofs.CalmLaws.{none-calm}
use Rattle.voice.proofs.frames.ahead.Goals as goal

pub returns-then-is_dead : goal.returns-then-is_dead
returns-then-is_dead c = record { count = (omega arith, omega arith); calm = none-calm _ _ 0 refl; alive = λ z. absurd (not-suc-le-zero z) }

pub returns-then-limit-v : goal.returns-then-limit-v
returns-then-limit-v c = record { count = (omega arith, omega arith); calm = none-calm _ _ 0 refl; alive = λ z. absurd (not-suc-le-zero z) }
