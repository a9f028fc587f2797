-- What is told of a file tells its answers apart.
use Rattle.std.proofs.Common.{◌≡◌, ℕ, Result, Ok, Err, refl, sym, ap, ap₂, arith}
use Rattle.riff.specs.declared.Fault.{Fault}
use Rattle.riff.specs.declared.FaultKind.{FaultKind}
use Rattle.riff.specs.declared.FaultKind.TheVariants.{NotFont, Broken, Missing}
use Rattle.riff.specs.declared.Font.{Font}
use Rattle.riff.specs.declared.Part.{Part}
use Rattle.riff.specs.Form.{Found, kind_number, told_font, refused_by}

-- no kind of fault has the number 0
kind-some : (k : FaultKind) → kind_number k ≡ 0 → ⊥
kind-some NotFont e = omega arith
kind-some Broken e = omega arith
kind-some Missing e = omega arith

-- a kind by its number
kinds-apart : (j k : FaultKind) → kind_number j ≡ kind_number k → j ≡ k
kinds-apart NotFont NotFont e = refl
kinds-apart NotFont Broken e = absurd (omega arith)
kinds-apart NotFont Missing e = absurd (omega arith)
kinds-apart Broken NotFont e = absurd (omega arith)
kinds-apart Broken Broken e = refl
kinds-apart Broken Missing e = absurd (omega arith)
kinds-apart Missing NotFont e = absurd (omega arith)
kinds-apart Missing Broken e = absurd (omega arith)
kinds-apart Missing Missing e = refl

-- two answers of which the same is told are one
pub font-told-apart : (x y : Result Font Fault) → told_font x ≡ told_font y → x ≡ y
unfolding refused_by
font-told-apart (Ok f) (Ok g) e =
    let bank : f.bank ≡ g.bank = ap (λ (t : Found). t.bank) e in
    let samples : f.samples ≡ g.samples = ap (λ (t : Found). t.samples) e in
    ap₂ (λ (b s : Part). let r : Result Font Fault = Ok (record { bank = b; samples = s }) in r) bank samples
font-told-apart (Ok f) (Err g) e = absurd (kind-some g.kind (sym (ap (λ (t : Found). t.number) e)))
font-told-apart (Err f) (Ok g) e = absurd (kind-some f.kind (ap (λ (t : Found). t.number) e))
font-told-apart (Err f) (Err g) e =
    let kind : f.kind ≡ g.kind = kinds-apart f.kind g.kind (ap (λ (t : Found). t.number) e) in
    let place : f.place ≡ g.place = ap (λ (t : Found). t.place) e in
    ap₂ (λ (k : FaultKind) (p : ℕ). let r : Result Font Fault = Err (record { kind = k; place = p }) in r) kind place
