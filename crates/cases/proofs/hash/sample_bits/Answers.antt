-- In two's complement a number below 0 lies as far below 65,536 as it does below 0.
use Rattle.std.proofs.Common.{◌≡◌, ℤ, pos, negsuc, ◌∙◌, arith, to_z-of_z, of_z, w16}
use Rattle.arith.specs.Floors.{mod_z}
use Rattle.arith.specs.Within.{Within}
use Rattle.arith.proofs.WithinLaws.{w-of}
use Rattle.cases.proofs.hash.sample_bits.Goals as goal

bits : (z : ℤ) → Within z 32768 → of_z w16 z ≡ mod_z z 65536
unfolding mod_z
bits (pos n) h = omega (arith, h.within)
bits (negsuc n) h = omega (arith, h.within)

pub returns : goal.returns
returns c = let e = rw (to_z-of_z c.ranges.s) at c.cast_unsigned.ensures in
    c.from.ensures ∙ (e ∙ bits c.args.s (w-of w16 c.ranges.s))
