-- `quantity_at` meets its contract.
use Rattle.std.proofs.Common.{None}
use mathlib.Core.List.{List}
use mathlib.Core.Path.{◌≡◌, refl, sym, ap, ◌∙◌}
use Prim.Native.Nat.{ℕ, suc, ◌+◌, ◌*◌, ◌-◌, ◌^◌, ◌<◌, ◌≤◌}
use native.Mathlib.Nat.{pow-suc, pow-le-pow_right}
use native.Mathlib.Omega.{arith}
use lib.Dec.{lit<}
use Rattle.arith.specs.Bytes.{u8_at}
use Rattle.smf.specs.Quantities.{quantity_at, quantity_from}
use Rattle.smf.proofs.QuantitiesLaws.{from_last, from_more, from-edge}
use Rattle.smf.proofs.quantities.quantity_at.Goals as goal

pub loop-n-init : goal.loop-n-init
unfolding quantity_at
loop-n-init c = (refl, lit< tt)

-- no byte may follow
from-none : (b : List ℕ) (edge at v : ℕ) → quantity_from 0 b edge at v ≡ None
unfolding quantity_from
from-none b edge at v = refl

-- seven bits more
grown : (n value x : ℕ) → n < 4 → value < 128 ^ n → x < 128 → (value * 128 + x < 128 ^ (n + 1)) × (value * 128 + x < 268435456)
grown n value x h v k =
    let one : n + 1 ≡ suc n = omega arith in
    let more : 128 ^ (n + 1) ≡ 128 ^ n * 128 = ap (λ (k : ℕ). 128 ^ k) one ∙ pow-suc 128 n in
    let room : 128 ^ (n + 1) ≤ 128 ^ 4 = pow-le-pow_right {n = 128} (lit< tt) {i = n + 1} {j = 4} (omega arith) in
    let next : value * 128 + x < 128 ^ (n + 1) = omega (arith, more) in
    (next, omega (arith, next, room))

pub returns-then-edge-p : goal.returns-then-edge-p
returns-then-edge-p c = let a = c.args in
    (sym (c.loop-n.invariant.0 ∙ from-edge (4 - c.loop-n.n) a.b.now a.edge c.loop-n.p c.loop-n.value c.if-edge-p.true), lit< tt)

pub overflow_mul-result : goal.overflow_mul-result
overflow_mul-result c = let g = grown c.loop-n.n c.loop-n.value 0 (omega arith) c.loop-n.invariant.1 (lit< tt) in
    omega (arith, g)

pub overflow_add-result : goal.overflow_add-result
overflow_add-result c = let g = grown c.loop-n.n c.loop-n.value c.byte-x.result (omega arith) c.loop-n.invariant.1 c.if-x-lt128.true in
    omega (arith, g)

pub returns-then-x-lt128 : goal.returns-then-x-lt128
returns-then-x-lt128 c = let a = c.args in
    let x : c.byte-x.result ≡ u8_at a.b.now c.loop-n.p = c.byte-x.ensures in
    let g = grown c.loop-n.n c.loop-n.value c.byte-x.result (omega arith) c.loop-n.invariant.1 c.if-x-lt128.true in
    let left : 4 - c.loop-n.n ≡ suc (3 - c.loop-n.n) = omega arith in
    let last = from_last (3 - c.loop-n.n) a.b.now a.edge c.loop-n.p c.loop-n.value (omega arith) (omega (arith, x)) in
    let inv = rw left at c.loop-n.invariant.0 in
    (rw x (sym (inv ∙ last)), g.1)

pub overflow_mul-value : goal.overflow_mul-value
overflow_mul-value c = let g = grown c.loop-n.n c.loop-n.value 0 (omega arith) c.loop-n.invariant.1 (lit< tt) in
    omega (arith, g)

pub overflow_add-value : goal.overflow_add-value
overflow_add-value c = let g = grown c.loop-n.n c.loop-n.value (c.byte-x.result - 128) (omega arith) c.loop-n.invariant.1 (omega (arith, c.byte-x.type_inv)) in
    omega (arith, g)

pub loop-n-preserved : goal.loop-n-preserved
loop-n-preserved c = let a = c.args in
    let x : c.byte-x.result ≡ u8_at a.b.now c.loop-n.p = c.byte-x.ensures in
    let g = grown c.loop-n.n c.loop-n.value (c.byte-x.result - 128) (omega arith) c.loop-n.invariant.1 (omega (arith, c.byte-x.type_inv)) in
    let left : 4 - c.loop-n.n ≡ suc (4 - (c.loop-n.n + 1)) = omega arith in
    let more = from_more (4 - (c.loop-n.n + 1)) a.b.now a.edge c.loop-n.p c.loop-n.value (omega arith) (omega (arith, x)) in
    let inv = rw left at c.loop-n.invariant.0 in
    (rw x (inv ∙ more), g.0)

pub returns : goal.returns
returns c = let a = c.args in
    let none : 4 - c.loop-n.n ≡ 0 = omega arith in
    let inv = rw none at c.loop-n.invariant.0 in
    (sym (inv ∙ from-none a.b.now a.edge c.loop-n.p c.loop-n.value), lit< tt)
