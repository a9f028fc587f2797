-- What a test's answer says of what it found, and the tests one after the other.
use Rattle.std.proofs.Common.{◌≡◌, ℕ, refl, sym, ◌∙◌, arith, Option, Some, None, Result, Ok, Err}
use Rattle.std.specs.Result.{result_and}
use Rattle.bank.specs.Admission.{fault_at}
use Rattle.bank.specs.declared.Fault.{Fault}
use Rattle.bank.specs.declared.FaultKind.{FaultKind}

abbrev pub Answer : Type 0
Answer = Result (Unit {0}) Fault

-- a test that tells no fault has found nothing
pub fault-none : (kind : FaultKind) (f : Option ℕ) → fault_at kind f ≡ Ok tt → f ≡ None
fault-none kind None e = refl
fault-none kind (Some p) e = let z : ◌≡◌ {A = ℕ} 0 1 = cc in absurd (omega arith)

-- what a test tells, where what it found is known
pub tells : (kind : FaultKind) (f g : Option ℕ) {r x : Answer} → r ≡ fault_at kind f → f ≡ g → r ≡ x → fault_at kind g ≡ x
tells kind f g a e w = rw e at (sym a ∙ w)

-- a test that passes leaves it to those behind it, and one that fails is the last
pub passes : {r s x : Answer} → r ≡ Ok tt → s ≡ x → result_and r s ≡ x
passes e h = rw e h

pub fails : {r : Answer} (s : Answer) {e : Fault} → r ≡ Err e → result_and r s ≡ Err e
fails s h = rw h refl
