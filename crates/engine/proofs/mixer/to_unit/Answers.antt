-- A whole number times 2^-23, with nothing rounded.
use Rattle.std.proofs.Common.{◌≡◌, false, ℤ, negsuc, refl, le_trans, lit≤, to_z-of_z}
use lib.Count.{count_trailing_zeros}
use lib.Ieee.{fin, binary32, mul, of_int, of_bits, of_fields, odd}
use Rattle.engine.specs.Mixer.{unit_of}
use Rattle.arith.proofs.FloatsLaws.{scaled, in-float}
use Rattle.engine.proofs.MixerLaws.{unit-made}
use Rattle.arith.specs.Within.{Within}
use Rattle.arith.proofs.WithinLaws.{w_le}
use Rattle.engine.proofs.mixer.to_unit.Goals as goal

-- the constant of the source is 2 ^ -23
step : of_bits binary32 872415232 ≡ fin false 1 (negsuc 22)
unfolding of_bits of_fields odd count_trailing_zeros
step = refl

-- the product is the float nearest to k / 2 ^ 23
nearest : (k : ℤ) → Within k 8388608 → mul binary32 (of_int binary32 k) (fin false 1 (negsuc 22)) ≡ unit_of k
unfolding unit_of
nearest k w = scaled k 22 (le_trans w.within (lit≤ tt))

pub returns : goal.returns
returns c = let k = c.args.k in
    unit-made _ k (w_le c.requires (lit≤ tt)) (rw (to_z-of_z c.ranges.k, step) (nearest k c.requires))
