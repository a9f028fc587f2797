-- The search among the kept gains, 200 cB after 200 cB, finds the least attenuation.
use Prim.Native.Nat.{ℕ, ◌*◌, ◌/◌, ◌<◌}
use mathlib.Core.Path.{◌≡◌}
use Rattle.curves.proofs.LevelsLaws.{reach}
use Rattle.curves.specs.Levels.{gain_of}
use Rattle.curves.proofs.levels.GainTable.least_cb.Given as goal

abbrev pub invariant-loop-tenths : goal.invariant-loop-tenths
invariant-loop-tenths l = (l.most ≡ reach (200 * l.tenths / 200) l.l) × ((b : ℕ) → b < 200 * l.tenths → l.l < gain_of b)
