-- The total, held; it fits 32 bits because both ends do.
use mathlib.Core.Path.{◌≡◌}
use lib.Dec.{lit<, lit≤}
use lib.IntN.{pos, negsuc}
use mir.Facts.{to_z-of_z}
use mir.Syntax.{w32, w64}
use borrow.Author.Rules.{sfits_of}
use Rattle.arith.specs.Within.{Within}
use Rattle.arith.proofs.WithinLaws.{w-back, w_fits, w_le, w-lit}
use Rattle.arith.proofs.HoldsLaws.{held-bound}
use Rattle.curves.specs.Pitch.{pitch_held}
use Rattle.voice.proofs.motion.hold_pitch.Goals as goal

pub overflow_cast-result : goal.overflow_cast-result
overflow_cast-result c = let gives : c.hold.result ≡ pitch_held c.args.p = rw (to_z-of_z c.ranges.p) at c.hold.ensures in
    let small : Within (pitch_held c.args.p) 9600 = held-bound (negsuc 9599) (pos 4800) c.args.p 9600 (w-lit (negsuc 9599)) (w_le (w-lit (pos 4800)) (lit≤ tt)) in
    rw (to_z-of_z {w = w64} {z = c.hold.result} (sfits_of c.hold.type_inv), gives) (w_fits w32 (small) (lit< tt))

pub returns : goal.returns
returns c = let gives : c.hold.result ≡ pitch_held c.args.p = rw (to_z-of_z c.ranges.p) at c.hold.ensures in
    let small : Within (pitch_held c.args.p) 9600 = held-bound (negsuc 9599) (pos 4800) c.args.p 9600 (w-lit (negsuc 9599)) (w_le (w-lit (pos 4800)) (lit≤ tt)) in
    rw (to_z-of_z {w = w64} {z = c.hold.result} (sfits_of c.hold.type_inv), gives, w-back w32 (small) (lit< tt))
