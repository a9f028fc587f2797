-- The layers as the search holds them: an array of 33, and how many.
use Rattle.std.specs.Prelude.{List, ◌++◌, ◌-◌, min, ℕ, length, take, replicate}
use Rattle.layers.specs.declared.Pair.{Pair}
use Rattle.layers.specs.declared.Layers.{Layers}
use Rattle.records.specs.declared.Parts.{Parts}
use Rattle.layers.specs.LayerSearch.{layers_of}

-- no layer
abbrev pub no_pair : Pair
no_pair = record { outer = 0; inner = 0 }

-- the first 33 layers of a list, and their number; the array's rest is blank
unfoldable pub up_to33 : List Pair → Layers
up_to33 l = record { count = min 33 (length l); pairs = take 33 l ++ replicate (33 - length l) no_pair }

-- what the search finds: it stops at the thirty-third layer
unfoldable pub searched : List ℕ → Parts → ℕ → ℕ → ℕ → Layers
searched b m key velocity h = up_to33 (layers_of b m key velocity h)
