-- Laws of a preset's keys, as the loops over its zones want them.
use mathlib.Core.List.{List}
use mathlib.Core.Bool.{true}
use mathlib.Core.Path.{◌≡◌, refl, ap}
use Prim.Native.Nat.{ℕ, ◌+◌, ◌-◌, ◌*◌, ◌<◌, ◌≤◌}
use lib.ListN.{length}
use native.Mathlib.Numerals.{add-one}
use native.Mathlib.Omega.{arith}
use Rattle.bank.specs.Admission.{admitted}
use Rattle.bank.proofs.AdmittedLaws.{admitted-rules}
use Rattle.records.proofs.ChunksLaws.{chunk_next, chunk-up}
use Rattle.records.specs.Chunks.{body, records, bytes_in}
use Rattle.records.specs.Sides.{bag_of, head_at, parts_of, presets}
use Rattle.records.specs.Zones.{zone_at, global_of, zone_count}
use Rattle.records.specs.declared.Parts.{Parts}
use Rattle.records.specs.declared.Side.{Side}
use Rattle.records.specs.declared.Zone.{Zone}
use Rattle.layers.specs.Spans.{joined, keys_under, span_under, zone_span, span_below, span_of, row_sheet, SheetNumbers, told_sheet}
use Rattle.layers.specs.declared.NoSheet.{NoSheet}
use Rattle.layers.specs.declared.NoSheet.TheVariants.{NotAdmitted, AtEnd}
use Rattle.layers.specs.declared.Sheet.{Sheet}
use Rattle.std.specs.Prelude.{Result, Ok, Err}
use Rattle.layers.specs.declared.Area.{Area}
use Rattle.layers.specs.declared.Range.{Range}

-- one zone more of instrument k
pub under-turn : (b : List ℕ) (i : Side) (a : Area) (k n from : ℕ) (zone beside : Zone) (span keys r : Range) → from ≡ bag_of b i k → zone ≡ zone_at b i (from + n) → beside ≡ global_of b i k → span ≡ span_under b i a k n → keys ≡ keys_under b i a zone beside → r ≡ joined span keys → r ≡ span_under b i a k (n + 1)
unfolding span_under
under-turn b i a k n from zone beside span keys r begins is global before found e = rw (add-one, e, before, found, is, global, begins) refl

-- one zone more of preset h
pub below-turn : (b : List ℕ) (p i : Side) (h n from : ℕ) (zone above : Zone) (span keys r : Range) → from ≡ bag_of b p h → zone ≡ zone_at b p (from + n) → above ≡ global_of b p h → span ≡ span_below b p i h n → keys ≡ zone_span b p i zone above → r ≡ joined span keys → r ≡ span_below b p i h (n + 1)
unfolding span_below
below-turn b p i h n from zone above span keys r begins is global before found e = rw (add-one, e, before, found, is, global, begins) refl

-- a sheet of its parts
pub row_made : (b : List ℕ) (m : Parts) (h at zones : ℕ) (keys : Range) → at ≡ m.presets.width * h → zones ≡ zone_count b m.presets h → keys ≡ span_of b m h → ◌≡◌ {A = SheetNumbers} (record { kind = 0; name = m.presets.heads + at; zones = zones; low = keys.low; high = keys.high }) (row_sheet b m h)
unfolding row_sheet
row_made b m h at zones keys place count span = rw (place, count, span) refl

-- the record of a preset, its name's bytes too, lies in the bank
pub name_in : (b : List ℕ) (h : ℕ) → admitted b ≡ true → h < (parts_of b).presets.nheads - 1 → head_at (parts_of b).presets h + 38 ≤ length b
unfolding parts_of presets body records bytes_in
name_in b h ok low =
    let a = admitted-rules b ok in
    omega (arith, low, a.whole, chunk_next b 0, chunk-up b 1 8)

-- the sheet that numbers of kind 0 tell of
abbrev sheet_in : SheetNumbers → Result Sheet NoSheet
sheet_in x = Ok (record { name = x.name; zones = x.zones; low = x.low; high = x.high })

-- the numbers of two answers are one only where the answers are
pub sheet-told-apart : (a b : Result Sheet NoSheet) → told_sheet a ≡ told_sheet b → a ≡ b
sheet-told-apart (Ok s) (Ok t) e = ap sheet_in e
sheet-told-apart (Ok s) (Err NotAdmitted) e = absurd (omega (arith, ap (λ (x : SheetNumbers). x.kind) e))
sheet-told-apart (Ok s) (Err AtEnd) e = absurd (omega (arith, ap (λ (x : SheetNumbers). x.kind) e))
sheet-told-apart (Err NotAdmitted) (Ok t) e = absurd (omega (arith, ap (λ (x : SheetNumbers). x.kind) e))
sheet-told-apart (Err NotAdmitted) (Err NotAdmitted) e = refl
sheet-told-apart (Err NotAdmitted) (Err AtEnd) e = absurd (omega (arith, ap (λ (x : SheetNumbers). x.kind) e))
sheet-told-apart (Err AtEnd) (Ok t) e = absurd (omega (arith, ap (λ (x : SheetNumbers). x.kind) e))
sheet-told-apart (Err AtEnd) (Err NotAdmitted) e = absurd (omega (arith, ap (λ (x : SheetNumbers). x.kind) e))
sheet-told-apart (Err AtEnd) (Err AtEnd) e = refl
