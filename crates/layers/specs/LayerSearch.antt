-- 01, "From a key to layers": the preset, and its layers in order.
use Rattle.std.specs.Prelude.{Bool, ◌&&◌, cond, List, [], ◌∷◌, ◌++◌, ℕ, ◌-◌, zero, suc, ◌+◌, eqb, Option}
use Rattle.records.specs.Headers.{program_of, bank_of}
use Rattle.records.specs.declared.Parts.{Parts}
use Rattle.records.specs.Looking.{first}
use Rattle.records.specs.declared.Side.{Side}
use Rattle.records.specs.declared.Zone.{Zone}
use Rattle.layers.specs.Ranges.{matches}
use Rattle.records.specs.Zones.{zone_at, global_of, zone_count}
use Rattle.records.specs.Sides.{bag_of}
use Rattle.layers.specs.declared.Pair.{Pair}
use Rattle.totals.specs.declared.Layer.{Layer}

-- whether phdr record h has this bank and program
unfoldable pub is_preset : List ℕ → Parts → ℕ → ℕ → ℕ → Bool
is_preset b m bank program h = eqb (bank_of b m h) bank && eqb (program_of b m h) program

-- the first phdr record with bank and program; the terminal is not one
unfoldable pub preset_for : List ℕ → Parts → ℕ → ℕ → Option ℕ
preset_for b m bank program = first (is_preset b m bank program) 0 (m.presets.nheads - 1)

-- whether a zone, beside the global one of its head, is sounding and matches key and velocity
unfoldable pub picked : List ℕ → Side → Zone → Zone → ℕ → ℕ → Bool
picked b s zone global key velocity = zone.sounding && matches b s zone global key velocity

-- whether zone z of head h is
unfoldable pub chosen : List ℕ → Side → ℕ → ℕ → ℕ → ℕ → Bool
chosen b s key velocity h z = picked b s (zone_at b s z) (global_of b s h) key velocity

-- preset zone z with each matching zone of instrument k, of its first n zones
unfoldable pub under : List ℕ → Side → ℕ → ℕ → ℕ → ℕ → ℕ → List Pair
under b i key velocity z k zero = []
under b i key velocity z k (suc n) =
    let y = bag_of b i k + n in
    under b i key velocity z k n ++ cond (chosen b i key velocity k y) (record { outer = z; inner = y } ∷ []) []

-- all layers of preset zone z: those of the instrument that it names
unfoldable pub all_under : List ℕ → Side → Side → ℕ → ℕ → ℕ → List Pair
all_under b p i key velocity z =
    let k = (zone_at b p z).link in
    under b i key velocity z k (zone_count b i k)

-- the layers of preset h, of its first n zones
unfoldable pub layers_below : List ℕ → Side → Side → ℕ → ℕ → ℕ → ℕ → List Pair
layers_below b p i key velocity h zero = []
layers_below b p i key velocity h (suc n) =
    let z = bag_of b p h + n in
    layers_below b p i key velocity h n ++ cond (chosen b p key velocity h z) (all_under b p i key velocity z) []

-- the layers of preset h, in order and in full
unfoldable pub layers_of : List ℕ → Parts → ℕ → ℕ → ℕ → List Pair
layers_of b m key velocity h = layers_below b m.presets m.instruments key velocity h (zone_count b m.presets h)

-- the four zones of a layer of preset h
unfoldable pub layer_of : List ℕ → Parts → ℕ → Pair → Layer
layer_of b m h l =
    let z = zone_at b m.presets l.outer in
    record {
      preset = z;
      above = global_of b m.presets h;
      instrument = zone_at b m.instruments l.inner;
      beside = global_of b m.instruments z.link;
    }
