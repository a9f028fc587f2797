-- The attenuation that is read is one of the velocity table.
use mathlib.Core.Path.{◌≡◌, refl, sym}
use native.Mathlib.Omega.{arith}
use lib.ListN.{length, get_or-eq_default}
use Rattle.curves.proofs.PitchLaws.{cb-le}
use Rattle.curves.specs.Levels.{cb_of, velocities}
use Rattle.curves.proofs.levels.cb_of.Goals as goal

pub returns-then-v-gt127 : goal.returns-then-v-gt127
unfolding cb_of
returns-then-v-gt127 c = let h : length velocities ≡ 128 = refl in
    (sym (get_or-eq_default velocities 0 {n = c.args.v} (omega arith)), omega arith)

pub returns : goal.returns
unfolding cb_of
returns c = (refl, cb-le c.args.v)
