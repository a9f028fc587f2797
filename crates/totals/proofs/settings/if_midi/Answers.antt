-- `if_midi` meets its contract.
use lib.Dec.{lit<}
use lib.IntN.{pos}
use mathlib.Core.Path.{◌≡◌, sym}
use mir.Facts.{to_z-of_z}
use mir.Syntax.{w16}
use mir.Val.{to_z}
use native.Mathlib.Omega.{arith}
use Rattle.arith.proofs.WithinLaws.{w-nat, w-back}
use Rattle.totals.proofs.SettingsLaws.{midi-low, midi-high, midi-in, midi-byte}
use Rattle.totals.proofs.settings.if_midi.Goals as goal

pub returns-then-x-low : goal.returns-then-x-low
returns-then-x-low c = let low-is : to_z w16 c.args.low ≡ pos c.args.low = w-back w16 (w-nat {m = c.args.low} {n = 255} (omega arith)) (lit< tt) in
    let a = c.args in
    sym (midi-low a.low a.x a.other (rw (to_z-of_z c.ranges.x, low-is) at c.if-x-low.true))

pub returns-then-x-gt127 : goal.returns-then-x-gt127
returns-then-x-gt127 c = let a = c.args in
    sym (midi-high a.low a.x a.other (rw (to_z-of_z c.ranges.x) at c.if-x-gt127.true))

pub returns : goal.returns
returns c = let low-is : to_z w16 c.args.low ≡ pos c.args.low = w-back w16 (w-nat {m = c.args.low} {n = 255} (omega arith)) (lit< tt) in
    let a = c.args in
    rw (to_z-of_z c.ranges.x) (sym (midi-in a.low a.x a.other (rw (to_z-of_z c.ranges.x, low-is) at c.if-x-low.false) (rw (to_z-of_z c.ranges.x) at c.if-x-gt127.false)))
