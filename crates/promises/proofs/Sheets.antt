-- Sheets tell of layers, and windows within their memories refuse no note-on.
use Prim.Native.Nat.{ℕ, zero, suc, ◌<◌, ◌≤◌, ◌-◌}
use mathlib.Core.Bool.{Bool, true, false, cond}
use mathlib.Core.List.{List, [], ◌∷◌}
use mathlib.Core.Path.{◌≡◌, refl}
use native.Mathlib.Nat.{not-suc-le-zero, le_of_suc-le-suc}
use native.Mathlib.Omega.{arith}
use lib.Dec.{ltb}
use lib.IntN.{ℤ}
use lib.ListN.{length, get_or}
use borrow.Author.Tests.{ltb-true}
use Rattle.bank.specs.Admission.{admitted}
use Rattle.events.specs.Striking.{bank_from, channel_bank}
use Rattle.layers.specs.Spans.{sheet_of, row_sheet, no_sheet, span_of}
use Rattle.layers.proofs.AdmittedVoices.{All, Inside, struck-inside}
use Rattle.layers.proofs.SpanKeysLaws.{Layered, outside-none, ends-sound}
use Rattle.layers.proofs.SpansLaws.{name_in}
use Rattle.records.specs.Sides.{parts_of}
use Rattle.state.specs.Channels.{channel_at}
use Rattle.state.specs.Reach.{memory}
use Rattle.voice.specs.Changes.{blank}
use Rattle.voice.specs.declared.Voice.{Voice}
use Rattle.promises.specs.Demand1.{LayerPast}
use Rattle.promises.specs.Sheets.{HasLayer, SheetTells, SheetsTell, NoneRefusedWith8}
use Rattle.promises.proofs.Demand1.{rules-admit, note-on-numbers}

-- the sheet of a record of an admitted bank
row-tells : (b : List ℕ) (h : ℕ) → admitted b ≡ true → h < (parts_of b).presets.nheads - 1 → SheetTells b h (row_sheet b (parts_of b) h)
unfolding row_sheet
row-tells b h ok low =
    record {
      name = omega (arith, name_in b h ok low);
      silent = λ key velocity k l t o. outside-none b (parts_of b) h key velocity (record { key-high = k; velocity-low = l; velocity-high = t }) o;
      lowest = λ l. has (span_of b (parts_of b) h).low (ends-sound b (parts_of b) h l).0;
      highest = λ l. has (span_of b (parts_of b) h).high (ends-sound b (parts_of b) h l).1;
    }
  where
    has : (key : ℕ) → Layered b (parts_of b) h key → HasLayer b h key
    has key l = record { velocity = l.velocity; low = l.struck.velocity-low; high = l.struck.velocity-high; layer = l.some }

-- a sheet of kind 0 is one of those
pub sheets-tell : SheetsTell
unfolding sheet_of
sheets-tell b h e = by (admitted b) (ltb h ((parts_of b).presets.nheads - 1)) refl refl e
  where
    by : (s t : Bool) → admitted b ≡ s → ltb h ((parts_of b).presets.nheads - 1) ≡ t
        → (cond s (cond t (row_sheet b (parts_of b) h) (no_sheet 2)) (no_sheet 1)).kind ≡ 0
        → SheetTells b h (cond s (cond t (row_sheet b (parts_of b) h) (no_sheet 2)) (no_sheet 1))
    by false t a q e = absurd (omega (arith, e))
    by true false a q e = absurd (omega (arith, e))
    by true true a q e = row-tells b h a (ltb-true h ((parts_of b).presets.nheads - 1) q)

-- of voices that end within their memories none ends past it
each-inside : (ram rom : List ℤ) (vs : List Voice) → All (Inside (length ram) (length rom)) vs → (n : ℕ) → n < length vs → Inside (length ram) (length rom) (get_or vs n blank)
each-inside ram rom [] a n l = absurd (not-suc-le-zero l)
each-inside ram rom (v ∷ vs) a zero l = a.0
each-inside ram rom (v ∷ vs) a (suc n) l = each-inside ram rom vs a.1 n (le_of_suc-le-suc l)

within-memory : (ram rom : List ℤ) (v : Voice) → Inside (length ram) (length rom) v → length (memory ram rom v) < v.end → ⊥
within-memory ram rom v h l = by v.rom h l
  where
    by : (t : Bool) → v.end ≤ cond t (length rom) (length ram) → length (cond t rom ram) < v.end → ⊥
    by true h l = omega (arith, h, l)
    by false h l = omega (arith, h, l)

none-layer-past : (ram rom : List ℤ) (vs : List Voice) → All (Inside (length ram) (length rom)) vs → LayerPast ram rom vs → ⊥
none-layer-past ram rom vs a p = within-memory ram rom (get_or vs p.layer blank) (each-inside ram rom vs a p.layer p.one) p.past

pub none-refused-with-8 : NoneRefusedWith8
unfolding bank_from
none-refused-with-8 b ram rom none c k v e s =
    let t = (note-on-numbers b ram rom c k v e).eight.0 s in
    none-layer-past ram rom _ (struck-inside b (length ram) (length rom) (rules-admit b t.1) none (channel_bank e c) (channel_at e c).program c k v) t.4
