-- Both sides of the stereo frame.
use Rattle.std.proofs.Common.{to_z-of_z}
use borrow.Author.Rules.{sfits_of}
use Rattle.engine.proofs.mixer.mix.Goals as goal

pub returns : goal.returns
returns c = let left = rw (to_z-of_z (sfits_of c.clamp.type_inv), c.clamp.ensures.0, to_z-of_z c.ranges.l) at c.to_unit.ensures in
    let right = rw (to_z-of_z (sfits_of c.clamp-2.type_inv), c.clamp-2.ensures.0, to_z-of_z c.ranges.r) at c.to_unit-2.ensures in
    record { left = left.0; right = right.0; left_exact = left.1; right_exact = right.1 }
