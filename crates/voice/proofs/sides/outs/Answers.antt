-- Both are from 0 to 1,000.
use native.Mathlib.Nat.{lt_of_le_of_lt}
use mathlib.Core.Path.{refl}
use lib.Dec.{lit<}
use lib.IntN.{pos, ◌+ℤ◌, ◌-ℤ◌}
use mir.Facts.{to_z-of_z}
use mir.Syntax.{w64}
use Rattle.arith.specs.Within.{Within}
use Rattle.arith.proofs.WithinLaws.{w-lit, w-add, w-sub, w_fits, w-back}
use Rattle.voice.proofs.SidesLaws.{left_up, right-up}
use Rattle.voice.proofs.sides.outs.Goals as goal

pub overflow_sub-result : goal.overflow_sub-result
overflow_sub-result c = let left : Within (pos 500 -ℤ c.args.q) 1000 = w-sub (w-lit (pos 500)) c.requires in
    rw (to_z-of_z c.ranges.q) (w_fits w64 (left) (lit< tt))

pub overflow_cast-result : goal.overflow_cast-result
overflow_cast-result c = let left : Within (pos 500 -ℤ c.args.q) 1000 = w-sub (w-lit (pos 500)) c.requires in
    rw (to_z-of_z c.ranges.q, w-back w64 (left) (lit< tt)) (left_up c.args.q c.requires, record { fits = lt_of_le_of_lt (left).within (lit< tt) })

pub overflow_add-result : goal.overflow_add-result
overflow_add-result c = let right : Within (pos 500 +ℤ c.args.q) 1000 = w-add (w-lit (pos 500)) c.requires in
    rw (to_z-of_z c.ranges.q) (w_fits w64 (right) (lit< tt))

pub overflow_cast-result-2 : goal.overflow_cast-result-2
overflow_cast-result-2 c = let right : Within (pos 500 +ℤ c.args.q) 1000 = w-add (w-lit (pos 500)) c.requires in
    rw (to_z-of_z c.ranges.q, w-back w64 (right) (lit< tt)) (right-up c.args.q c.requires, record { fits = lt_of_le_of_lt (right).within (lit< tt) })

pub returns : goal.returns
returns c = let left : Within (pos 500 -ℤ c.args.q) 1000 = w-sub (w-lit (pos 500)) c.requires in
    let right : Within (pos 500 +ℤ c.args.q) 1000 = w-add (w-lit (pos 500)) c.requires in
    rw (to_z-of_z c.ranges.q, w-back w64 (left) (lit< tt), w-back w64 (right) (lit< tt)) (refl, (left).within, refl, (right).within)
