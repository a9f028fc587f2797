-- `zone_at` meets its contract.
use Rattle.std.specs.Prelude.{None, Some}
use native.Mathlib.Omega.{arith}
use mathlib.Core.Path.{◌≡◌}
use Rattle.records.specs.Zones.{zone_at, closing_of}
use Rattle.records.proofs.ZonesLaws.{closing-is}
use Rattle.records.proofs.zones.zone_at.Goals as goal

pub overflow_sub-result : goal.overflow_sub-result
overflow_sub-result c = let a = c.args in
    let g = c.in-Some.g in
    let e : closing_of a.b.now a.s a.z ≡ Some g = cc in
    let h = closing-is a.b.now a.s a.z g e in
    omega arith

pub overflow_cast-result-in-Some-2 : goal.overflow_cast-result-in-Some-2
overflow_cast-result-in-Some-2 c = let a = c.args in
    let g = c.in-Some.g in
    let e : closing_of a.b.now a.s a.z ≡ Some g = cc in
    let h = closing-is a.b.now a.s a.z g e in
    omega arith

pub amount-requires : goal.amount-requires
amount-requires c = let a = c.args in
    let g = c.in-Some.g in
    let e : closing_of a.b.now a.s a.z ≡ Some g = cc in
    let h = closing-is a.b.now a.s a.z g e in
    omega arith

pub returns-in-None : goal.returns-in-None
unfolding zone_at
returns-in-None c = let a = c.args in
    let e : closing_of a.b.now a.s a.z ≡ None = cc in
    simp e (cc)

pub returns-in-Some : goal.returns-in-Some
unfolding zone_at
returns-in-Some c = let a = c.args in
    let e : closing_of a.b.now a.s a.z ≡ Some c.in-Some.g = cc in
    simp e (cc)
