-- Laws of variable-length quantities: where a good one ends, and how large it is.
use Rattle.std.proofs.Common.{Option, Some, None}
use Rattle.smf.specs.declared.Quantity.{Quantity}
use mathlib.Core.Bool.{Bool, true, false, cond}
use mathlib.Core.List.{List}
use mathlib.Core.Path.{◌≡◌, refl, ap}
use Prim.Native.Nat.{ℕ, zero, suc, ◌+◌, ◌*◌, ◌-◌, ◌^◌, ◌<◌, ◌≤◌}
use native.Mathlib.Nat.{mul-le-mul_left, mul-le-mul_right, one-le-pow, mul_assoc, mul_comm, pow-suc}
use native.Mathlib.Omega.{arith}
use borrow.Author.Tests.{ltb-true, lt-ltb, le-ltb}
use lib.Dec.{ltb, lit<}
use Rattle.arith.specs.Bytes.{u8_at}
use Rattle.smf.specs.Quantities.{quantity_from, quantity_at, quantity}

-- a quantity is not both good and bad
pub bad-good : (value behind : ℕ) → None ≡ quantity value behind → ⊥
bad-good value behind e = let z : ◌≡◌ {A = ℕ} 0 1 = cc in omega arith

-- of two quantities that are the same the numbers are, and the places behind them
pub same-quantity : (v p value behind : ℕ) → quantity v p ≡ quantity value behind → (v ≡ value) × (p ≡ behind)
same-quantity v p value behind e =
    (ap (λ (q : Option Quantity). elim q as (λ x. ℕ) [ None ↦ v | Some q ↦ q.value ]) e, ap (λ (q : Option Quantity). elim q as (λ x. ℕ) [ None ↦ p | Some q ↦ q.behind ]) e)

-- one byte or more is read, all in front of the edge, and at most n
pub from-behind : (n : ℕ) (b : List ℕ) (edge at v value behind : ℕ) → quantity_from n b edge at v ≡ quantity value behind → (at < behind) × (behind ≤ edge) × (behind ≤ at + n)
unfolding quantity_from
from-behind zero b edge at v value behind e = absurd (bad-good value behind e)
from-behind (suc n) b edge at v value behind e =
    first (from-behind n b edge (at + 1) (v * 128 + (u8_at b at - 128)) value behind) (ltb at edge) (ltb (u8_at b at) 128) refl e
  where
    first : (quantity_from n b edge (at + 1) (v * 128 + (u8_at b at - 128)) ≡ quantity value behind → (at + 1 < behind) × (behind ≤ edge) × (behind ≤ at + 1 + n)) → (t u : Bool) → ltb at edge ≡ t → cond t (cond u (quantity (v * 128 + u8_at b at) (at + 1)) (quantity_from n b edge (at + 1) (v * 128 + (u8_at b at - 128)))) None ≡ quantity value behind → (at < behind) × (behind ≤ edge) × (behind ≤ at + suc n)
    first more false u k e = absurd (bad-good value behind e)
    first more true true k e =
        let h = ltb-true at edge k in
        let same = (same-quantity (v * 128 + u8_at b at) (at + 1) value behind e).1 in
        (omega arith, omega arith, omega arith)
    first more true false k e = let h = more e in (omega arith, omega arith, omega arith)

-- of bytes below 256, each of the n adds seven bits
pub from-value : (n : ℕ) (b : List ℕ) (edge at v value behind : ℕ) → ((i : ℕ) → u8_at b i < 256) → quantity_from n b edge at v ≡ quantity value behind → value < (v + 1) * 128 ^ n
unfolding quantity_from
from-value zero b edge at v value behind bytes e = absurd (bad-good value behind e)
from-value (suc n) b edge at v value behind bytes e =
    first (from-value n b edge (at + 1) (v * 128 + (u8_at b at - 128)) value behind bytes) (ltb at edge) (ltb (u8_at b at) 128) refl e
  where
    first : (quantity_from n b edge (at + 1) (v * 128 + (u8_at b at - 128)) ≡ quantity value behind → value < (v * 128 + (u8_at b at - 128) + 1) * 128 ^ n) → (t u : Bool) → ltb (u8_at b at) 128 ≡ u → cond t (cond u (quantity (v * 128 + u8_at b at) (at + 1)) (quantity_from n b edge (at + 1) (v * 128 + (u8_at b at - 128)))) None ≡ quantity value behind → value < (v + 1) * 128 ^ suc n
    first more false u k e = absurd (bad-good value behind e)
    first more true true k e =
        let x = ltb-true (u8_at b at) 128 k in
        let same = (same-quantity (v * 128 + u8_at b at) (at + 1) value behind e).0 in
        let one : 1 ≤ 128 ^ n = one-le-pow n 128 (lit< tt) in
        let least : 128 ≤ 128 ^ suc n = omega (arith, pow-suc 128 n) in
        let room : (v + 1) * 128 ≤ (v + 1) * 128 ^ suc n = mul-le-mul_left (v + 1) least in
        omega arith
    first more true false k e =
        let x = bytes at in
        let step : (v * 128 + (u8_at b at - 128) + 1) * 128 ^ n ≤ ((v + 1) * 128) * 128 ^ n = mul-le-mul_right (128 ^ n) (omega arith) in
        let same : ((v + 1) * 128) * 128 ^ n ≡ (v + 1) * 128 ^ suc n = rw (mul_assoc, mul_comm 128 (128 ^ n)) (rw pow-suc) in
        omega (arith, more e)

-- a good quantity ends behind its place and in front of the edge
pub quantity-behind : (b : List ℕ) (edge at value behind : ℕ) → quantity_at b edge at ≡ quantity value behind → (at < behind) × (behind ≤ edge)
unfolding quantity_at
quantity-behind b edge at value behind e = let h = from-behind 4 b edge at 0 value behind e in (h.0, h.1)

-- of bytes below 256 it is below 2^28
pub quantity-value : (b : List ℕ) (edge at value behind : ℕ) → ((i : ℕ) → u8_at b i < 256) → quantity_at b edge at ≡ quantity value behind → value < 268435456
unfolding quantity_at
quantity-value b edge at value behind bytes e = from-value 4 b edge at 0 value behind bytes e

-- past the edge there is none
pub quantity-edge : (b : List ℕ) (edge at : ℕ) → edge ≤ at → quantity_at b edge at ≡ None
unfolding quantity_at quantity_from
quantity-edge b edge at h = rw (le-ltb at edge h) refl

-- the last byte, below 128
pub from_last : (n : ℕ) (b : List ℕ) (edge at v : ℕ) → at < edge → u8_at b at < 128 → quantity_from (suc n) b edge at v ≡ quantity (v * 128 + u8_at b at) (at + 1)
unfolding quantity_from
from_last n b edge at v h x = rw (lt-ltb at edge h, lt-ltb (u8_at b at) 128 x) refl

-- a byte that is not the last
pub from_more : (n : ℕ) (b : List ℕ) (edge at v : ℕ) → at < edge → 128 ≤ u8_at b at → quantity_from (suc n) b edge at v ≡ quantity_from n b edge (at + 1) (v * 128 + (u8_at b at - 128))
unfolding quantity_from
from_more n b edge at v h x = rw (lt-ltb at edge h, le-ltb (u8_at b at) 128 x) refl

-- no byte is left
pub from-edge : (n : ℕ) (b : List ℕ) (edge at v : ℕ) → edge ≤ at → quantity_from n b edge at v ≡ None
unfolding quantity_from
from-edge zero b edge at v h = refl
from-edge (suc n) b edge at v h = rw (le-ltb at edge h) refl
