-- The two halves' products and the shifted number add up to the product, modulo 2^64.
use Rattle.std.proofs.Common.{◌≡◌, ℕ, ◌+◌, ◌*◌, ◌/◌, ◌%◌, ◌^◌, ap, ◌∙◌, add_assoc, arith}
use native.Mathlib.Nat.{mod-add-mod, add-mod-mod}
use Rattle.cases.specs.Internal.Hash.{times}
use Rattle.cases.proofs.hash.times.Goals as goal

-- sums modulo 2^64 of what is taken modulo 2^64 already
joined : (a b d : ℕ) → (a % 2 ^ 64 + (b + d % 2 ^ 64) % 2 ^ 64) % 2 ^ 64 ≡ (a + (b + d)) % 2 ^ 64
joined a b d = mod-add-mod a (2 ^ 64) ((b + d % 2 ^ 64) % 2 ^ 64) ∙ add-mod-mod a (b + d % 2 ^ 64) (2 ^ 64) ∙ inner
  where
    inner : (a + (b + d % 2 ^ 64)) % 2 ^ 64 ≡ (a + (b + d)) % 2 ^ 64
    inner = rw (← add_assoc a b) (add-mod-mod (a + b) d (2 ^ 64) ∙ ap (λ (x : ℕ). x % 2 ^ 64) (add_assoc a b d))

-- the number and its two halves, each with its weight
parts : (h : ℕ) → h * 2 ^ 40 + (h % 4294967296 * 435 + h / 4294967296 * 435 * 2 ^ 32) ≡ h * 1099511628211
parts h = omega arith

pub returns : goal.returns
unfolding times
returns c = let h = c.args.h in
    rw (c.wrapping_add_u64.ensures.value, c.wrapping_add_u64-small.ensures.value) (joined (h * 2 ^ 40) (h % 4294967296 * 435) (h / 4294967296 * 435 * 2 ^ 32) ∙ ap (λ (x : ℕ). x % 2 ^ 64) (parts h))
