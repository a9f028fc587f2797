-- The three cases of a number that is held.
use mathlib.Core.Path.{sym}
use mir.Facts.{to_z-of_z}
use Rattle.arith.proofs.HoldsLaws.{clamp-low, clamp-high, clamp-in}
use Rattle.arith.proofs.holds.hold.Goals as goal

pub returns-then-x-low : goal.returns-then-x-low
returns-then-x-low c = rw (to_z-of_z c.ranges.low) (sym (clamp-low c.args.low c.args.high c.args.x (rw (to_z-of_z c.ranges.x, to_z-of_z c.ranges.low) at c.if-x-low.true)))

pub returns-then-high-x : goal.returns-then-high-x
returns-then-high-x c = rw (to_z-of_z c.ranges.high)
    (sym
    (clamp-high c.args.low c.args.high c.args.x
    (rw (to_z-of_z c.ranges.x, to_z-of_z c.ranges.low) at c.if-x-low.false)
    (rw (to_z-of_z c.ranges.high, to_z-of_z c.ranges.x) at c.if-high-x.true)))

pub returns : goal.returns
returns c = rw (to_z-of_z c.ranges.x)
    (sym
    (clamp-in c.args.low c.args.high c.args.x
    (rw (to_z-of_z c.ranges.x, to_z-of_z c.ranges.low) at c.if-x-low.false)
    (rw (to_z-of_z c.ranges.high, to_z-of_z c.ranges.x) at c.if-high-x.false)))
