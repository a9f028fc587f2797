-- A level times 2^-24, with nothing rounded.
use lib.Dec.{lit≤}
use mathlib.Core.Path.{◌≡◌, refl}
use mathlib.Core.Bool.{false}
use lib.IntN.{pos, negsuc}
use lib.Count.{count_trailing_zeros}
use Prim.Native.Nat.{ℕ, ◌≤◌}
use lib.Ieee.{fin, binary32, mul, of_int, of_bits, of_fields, odd}
use Rattle.arith.proofs.WithinLaws.{w-nat}
use Rattle.voice.specs.Panel.{level_of}
use Rattle.arith.proofs.FloatsLaws.{scaled, in-float}
use Rattle.voice.proofs.PanelLaws.{level-made}
use Rattle.voice.proofs.panel.level_unit.Goals as goal

pub int_to_float-result : goal.int_to_float-result
int_to_float-result c = in-float (pos c.args.n) 16777216 (w-nat c.requires) (lit≤ tt)

-- the constant of the source is 2 ^ -24
step : of_bits binary32 864026624 ≡ fin false 1 (negsuc 23)
unfolding of_bits of_fields odd count_trailing_zeros
step = refl

-- the product is the float nearest to n / 2 ^ 24
nearest : (n : ℕ) → n ≤ 16777216 → mul binary32 (of_int binary32 (pos n)) (fin false 1 (negsuc 23)) ≡ level_of n
unfolding level_of
nearest n h = scaled (pos n) 23 h

pub returns : goal.returns
returns c = level-made _ c.args.n c.requires (rw step (nearest c.args.n c.requires))
