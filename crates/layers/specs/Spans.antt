-- 01, "From a key to layers": what is told of a preset, and the keys that its layers reach.
use Rattle.std.specs.Prelude.{cond, Result, Ok, Err, Bool, ◌&&◌, List, ℕ, zero, suc, ◌+◌, ◌-◌, min, max, leb, ltb}
use Rattle.bank.specs.Admission.{admitted}
use Rattle.records.specs.Sides.{bag_of, head_at, parts_of}
use Rattle.records.specs.Zones.{zone_at, global_of, zone_count}
use Rattle.records.specs.declared.Parts.{Parts}
use Rattle.records.specs.declared.Side.{Side}
use Rattle.records.specs.declared.Zone.{Zone}
use Rattle.layers.specs.Ranges.{key_range, velocity_range, whole}
use Rattle.layers.specs.declared.Area.{Area}
use Rattle.layers.specs.declared.NoSheet.{NoSheet}
use Rattle.layers.specs.declared.NoSheet.TheVariants.{NotAdmitted, AtEnd}
use Rattle.layers.specs.declared.Range.{Range}
use Rattle.layers.specs.declared.Sheet.{Sheet}

-- what two ranges have in common
unfoldable pub common : Range → Range → Range
common r s = record { low = max r.low s.low; high = min r.high s.high }

-- from the lower of two lows to the higher of two highs
unfoldable pub joined : Range → Range → Range
joined r s = record { low = min r.low s.low; high = max r.high s.high }

-- whether there is something in a range
unfoldable pub filled : Range → Bool
filled r = leb r.low r.high

-- no key
abbrev pub no_keys : Range
no_keys = record { low = 127; high = 0 }

-- the velocities of a note-on: 1..127
abbrev pub struck_range : Range
struck_range = record { low = 1; high = 127 }

-- the keys of 0..127 and the velocities of 1..127 that match a zone, with the global one of its head
unfoldable pub area_of : List ℕ → Side → Zone → Zone → Area
area_of b s local global =
    record {
      keys = common whole (key_range b s local (key_range b s global whole));
      velocities = common struck_range (velocity_range b s local (velocity_range b s global whole));
    }

-- the keys of a layer of two zones: those in common, where there are some, and a velocity in common
unfoldable pub layer_keys : Area → Area → Range
layer_keys a c =
    let keys = common a.keys c.keys in
    cond (filled keys && filled (common a.velocities c.velocities)) keys no_keys

-- the keys of a preset zone's area with an instrument zone, which must be sounding, and the global one beside it
unfoldable pub keys_under : List ℕ → Side → Area → Zone → Zone → Range
keys_under b i a zone beside = cond zone.sounding (layer_keys a (area_of b i zone beside)) no_keys

-- from the lowest to the highest key of a preset zone's area with instrument k, of its first n zones
unfoldable pub span_under : List ℕ → Side → Area → ℕ → ℕ → Range
span_under b i a k zero = no_keys
span_under b i a k (suc n) = joined (span_under b i a k n) (keys_under b i a (zone_at b i (bag_of b i k + n)) (global_of b i k))

-- the same of a preset zone, which must be sounding, and the global one above it, with the instrument that it names
unfoldable pub zone_span : List ℕ → Side → Side → Zone → Zone → Range
zone_span b p i zone above =
    let k = zone.link in
    cond zone.sounding (span_under b i (area_of b p zone above) k (zone_count b i k)) no_keys

-- the same of preset h, of its first n zones
unfoldable pub span_below : List ℕ → Side → Side → ℕ → ℕ → Range
span_below b p i h zero = no_keys
span_below b p i h (suc n) = joined (span_below b p i h n) (zone_span b p i (zone_at b p (bag_of b p h + n)) (global_of b p h))

-- from the lowest to the highest key of the layers of preset h; 127..0 where it has none
unfoldable pub span_of : List ℕ → Parts → ℕ → Range
span_of b m h = span_below b m.presets m.instruments h (zone_count b m.presets h)

-- what is told of a place as numbers: a kind, where the record begins, its zones, and the lowest and highest key of its layers
pub record SheetNumbers : Type 0 where
  pub kind : ℕ
  pub name : ℕ
  pub zones : ℕ
  pub low : ℕ
  pub high : ℕ

-- where nothing is told: the kind alone
abbrev pub no_sheet : ℕ → SheetNumbers
no_sheet kind = record { kind = kind; name = 0; zones = 0; low = 0; high = 0 }

-- the phdr record at a place: where it begins, with 20 bytes of name, its zones and its keys
unfoldable pub row_sheet : List ℕ → Parts → ℕ → SheetNumbers
row_sheet b m h =
    let keys = span_of b m h in
    record { kind = 0; name = head_at m.presets h; zones = zone_count b m.presets h; low = keys.low; high = keys.high }

-- 0 and what is told of a place; 1 where the bank is not admitted; 2 at or past the terminal's place
unfoldable pub sheet_of : List ℕ → ℕ → SheetNumbers
sheet_of b at =
    let m = parts_of b in
    cond (admitted b) (cond (ltb at (m.presets.nheads - 1)) (row_sheet b m at) (no_sheet 2)) (no_sheet 1)

-- the numbers of an answer: 0 with a sheet, 1 where the bank is not admitted, 2 at the end
abbrev pub told_sheet : Result Sheet NoSheet → SheetNumbers
told_sheet (Ok s) = record { kind = 0; name = s.name; zones = s.zones; low = s.low; high = s.high }
told_sheet (Err NotAdmitted) = no_sheet 1
told_sheet (Err AtEnd) = no_sheet 2
