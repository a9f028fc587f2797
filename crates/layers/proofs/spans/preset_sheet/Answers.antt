-- `preset_sheet` meets its contract.
use borrow.Author.Tests.{lt-ltb, le-ltb}
use mathlib.Core.Bool.{true, false}
use mathlib.Core.Path.{◌≡◌, refl, ap, ◌∙◌}
use native.Mathlib.Omega.{arith}
use Prim.Native.Nat.{◌+◌, ◌-◌, ◌≤◌, ◌<◌}
use Rattle.bank.specs.Admission.{admitted}
use Rattle.bank.proofs.AdmittedLaws.{admitted-room, admitted-rules}
use Rattle.records.specs.Sides.{parts_of, head_at}
use Rattle.records.specs.declared.Parts.{Parts}
use Rattle.layers.specs.Spans.{sheet_of, row_sheet}
use Rattle.layers.proofs.SpansLaws.{row_made, name_in}
use Rattle.layers.proofs.spans.preset_sheet.Goals as goal

pub returns-then-not-admitted : goal.returns-then-not-admitted
unfolding sheet_of
returns-then-not-admitted c = let no : admitted c.args.bank.now ≡ false = cc in rw no refl

pub parts_of-m-requires : goal.parts_of-m-requires
parts_of-m-requires c = let yes : admitted c.args.bank.now ≡ true = cc in admitted-room c.args.bank.now yes

pub returns-then-saturating_sub-place : goal.returns-then-saturating_sub-place
unfolding sheet_of
returns-then-saturating_sub-place c = let a = c.args in
    let yes : admitted a.bank.now ≡ true = cc in
    let e : c.saturating_sub.result ≡ (parts_of a.bank.now).presets.nheads - 1 = rw c.parts_of-m.ensures at c.saturating_sub.ensures in
    let high : (parts_of a.bank.now).presets.nheads - 1 ≤ a.place = rw e at c.if-saturating_sub-place.true in
    rw (yes, le-ltb _ _ high) refl

pub overflow_cast-result-2 : goal.overflow_cast-result-2
overflow_cast-result-2 c = let a = c.args in
    let yes : admitted a.bank.now ≡ true = cc in
    let e : c.saturating_sub.result ≡ (parts_of a.bank.now).presets.nheads - 1 = rw c.parts_of-m.ensures at c.saturating_sub.ensures in
    let low : a.place < (parts_of a.bank.now).presets.nheads - 1 = rw e at c.if-saturating_sub-place.false in
    let at : c.parts_of-m.result.presets.heads + c.times.result ≡ head_at (parts_of a.bank.now).presets a.place = rw (c.times.ensures.0, c.parts_of-m.ensures) refl in
    record { fits = omega (arith, at, name_in a.bank.now a.place yes low, (admitted-rules a.bank.now yes).short) }

pub returns : goal.returns
unfolding sheet_of
returns c = let a = c.args in
    let yes : admitted a.bank.now ≡ true = cc in
    let e : c.saturating_sub.result ≡ (parts_of a.bank.now).presets.nheads - 1 = rw c.parts_of-m.ensures at c.saturating_sub.ensures in
    let low : a.place < (parts_of a.bank.now).presets.nheads - 1 = rw e at c.if-saturating_sub-place.false in
    rw (yes, lt-ltb _ _ low)
    (row_made a.bank.now c.parts_of-m.result a.place _ _ _ c.times.ensures.0 (c.from.ensures ∙ c.zone_count.ensures) c.span_of-keys.ensures
    ∙ ap (λ (x : Parts). row_sheet a.bank.now x a.place) c.parts_of-m.ensures)
