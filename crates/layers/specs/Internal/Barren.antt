-- Instruments in which nothing matches, and the array that remembers them for one note-on.
use Rattle.std.specs.Prelude.{Bool, false, true, cond, not, ◌&&◌, List, ℕ, get_or, set}
use Rattle.records.specs.declared.Side.{Side}
use Rattle.records.specs.declared.Zone.{Zone}
use Rattle.layers.specs.LayerSearch.{picked}

-- whether instrument k is remembered; a number past the array never is
unfoldable pub remembered : List Bool → ℕ → Bool
remembered barren k = get_or barren k false

-- the array once instrument k was looked through, and whether nothing was found in it
unfoldable pub noted : List Bool → ℕ → Bool → List Bool
noted barren k nothing = cond nothing (set barren k true) barren

-- whether the search goes into the instrument of a preset zone: it is picked, and its instrument not remembered
unfoldable pub entered : List ℕ → Side → Zone → Zone → ℕ → ℕ → List Bool → Bool
entered b p zone global key velocity barren = picked b p zone global key velocity && not (remembered barren zone.link)
