-- The bits 12345678 (hex) are no NaN's.
use lib.Ieee.{nan_bits}
use Rattle.drive.proofs.output.render.Goals as goal

pub float_from_bits-before : goal.float_from_bits-before
unfolding nan_bits
float_from_bits-before c = tt
