-- `listed_at` meets its contract.
use mathlib.Core.Bool.{true, false}
use Prim.Native.Nat.{ℕ, ◌+◌, ◌-◌, ◌≤◌, ◌<◌}
use borrow.Author.Tests.{lt-ltb, le-ltb}
use mathlib.Core.Path.{◌≡◌, refl, sym, ap, ap₂, ◌∙◌}
use Rattle.bank.specs.Admission.{admitted}
use Rattle.bank.proofs.AdmittedLaws.{admitted-room}
use Rattle.bank.specs.Listing.{listed}
use Rattle.bank.specs.declared.Listed.TheVariants.{Row}
use Rattle.records.specs.Sides.{parts_of}
use Rattle.records.specs.Headers.{program_of, bank_of}
use Rattle.records.specs.declared.Parts.{Parts}
use Rattle.bank.proofs.listing.listed_at.Goals as goal

pub parts_of-m-requires : goal.parts_of-m-requires
parts_of-m-requires c = admitted-room c.args.b.now (sym c.admitted.ensures ∙ c.if-admitted.true)

pub returns-then-place-less : goal.returns-then-place-less
unfolding listed
returns-then-place-less c = let a = c.args in
    let yes : admitted a.b.now ≡ true = sym c.admitted.ensures ∙ c.if-admitted.true in
    let e : c.less.result ≡ (parts_of a.b.now).presets.nheads - 1 = rw c.parts_of-m.ensures at c.less.ensures in
    let low : a.place < (parts_of a.b.now).presets.nheads - 1 = rw e at c.if-place-less.true in
    let program = c.program_of.ensures ∙ ap (λ (x : Parts). program_of a.b.now x a.place) c.parts_of-m.ensures in
    let bank = c.bank_of.ensures ∙ ap (λ (x : Parts). bank_of a.b.now x a.place) c.parts_of-m.ensures in
    rw (yes, lt-ltb _ _ low) (ap₂ (λ (x y : ℕ). Row x y (a.place + 1)) program bank)

pub returns-then-admitted : goal.returns-then-admitted
unfolding listed
returns-then-admitted c = let a = c.args in
    let yes : admitted a.b.now ≡ true = sym c.admitted.ensures ∙ c.if-admitted.true in
    let e : c.less.result ≡ (parts_of a.b.now).presets.nheads - 1 = rw c.parts_of-m.ensures at c.less.ensures in
    let high : (parts_of a.b.now).presets.nheads - 1 ≤ a.place = rw e at c.if-place-less.false in
    rw (yes, le-ltb _ _ high) refl

pub returns : goal.returns
unfolding listed
returns c = let no : admitted c.args.b.now ≡ false = sym c.admitted.ensures ∙ c.if-admitted.false in
    rw no refl
