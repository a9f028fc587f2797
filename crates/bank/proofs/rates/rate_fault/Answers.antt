-- `rate_fault` meets its contract.
use Rattle.std.specs.Prelude.{Some}
use mathlib.Core.Path.{◌≡◌, refl, sym, ◌∙◌}
use native.Mathlib.Omega.{arith}
use Prim.Native.Nat.{ℕ, ◌+◌, ◌-◌, ◌*◌, ◌<◌}
use Rattle.bank.specs.Rates.{bad_rate, rate_fault}
use Rattle.records.specs.Looking.{first}
use Rattle.records.proofs.LookingLaws.{first-is}
use Rattle.bank.proofs.rates.rate_fault.Goals as goal

-- the product alone
within : (a k : ℕ) → a + 46 * k < 18446744073709551616 → 46 * k < 18446744073709551616
within a k h = omega arith

pub overflow_mul-result : goal.overflow_mul-result
overflow_mul-result c = let sample : ℕ = c.in-Some.k in
    let room : (k : ℕ) → k < 0 + (c.args.m.instruments.nlinks - 1) → c.args.m.samples + 46 * k < 18446744073709551616 = λ k h. omega arith in
    let found : first (bad_rate c.args.b.now c.args.m) 0 (c.args.m.instruments.nlinks - 1) ≡ Some sample = sym c.lowest_bad.ensures ∙ c.in-Some.is in
    let low : c.args.m.samples + 46 * sample < 18446744073709551616 = room sample (first-is (bad_rate c.args.b.now c.args.m) 0 (c.args.m.instruments.nlinks - 1) sample found).high in
    record { fits = within c.args.m.samples (sample) (low) }

pub overflow_add-result : goal.overflow_add-result
overflow_add-result c = let room : (k : ℕ) → k < 0 + (c.args.m.instruments.nlinks - 1) → c.args.m.samples + 46 * k < 18446744073709551616 = λ k h. omega arith in
    let sample : ℕ = c.in-Some.k in
    let found : first (bad_rate c.args.b.now c.args.m) 0 (c.args.m.instruments.nlinks - 1) ≡ Some sample = sym c.lowest_bad.ensures ∙ c.in-Some.is in
    let low : c.args.m.samples + 46 * sample < 18446744073709551616 = room sample (first-is (bad_rate c.args.b.now c.args.m) 0 (c.args.m.instruments.nlinks - 1) sample found).high in
    record { fits = low }

pub returns-in-None : goal.returns-in-None
unfolding rate_fault
returns-in-None c = rw (sym c.lowest_bad.ensures ∙ c.in-None.is) refl

pub returns-in-Some : goal.returns-in-Some
unfolding rate_fault
returns-in-Some c = let sample : ℕ = c.in-Some.k in
    let found : first (bad_rate c.args.b.now c.args.m) 0 (c.args.m.instruments.nlinks - 1) ≡ Some sample = sym c.lowest_bad.ensures ∙ c.in-Some.is in
    rw (found) refl
