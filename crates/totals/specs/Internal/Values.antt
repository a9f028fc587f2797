-- A layer's values in two lists, in which generator g has place g, and its totals of them.
use Rattle.std.specs.Prelude.{List, [], ◌∷◌, ℕ, zero, suc, ℤ, pos, replicate}
use Rattle.totals.specs.Values.{total_of, default_of}
use Rattle.records.specs.Internal.Amounts.{at, poured}
use Rattle.records.specs.declared.Parts.{Parts}
use Rattle.totals.specs.declared.Layer.{Layer}

-- the total of generator g, of the instrument's values and the preset's
abbrev pub total_in : List ℤ → List ℤ → ℕ → ℤ
total_in own added g = total_of g (at own g) (at added g)

-- f of 0, 1, .. up to n numbers, from g on
abbrev pub each : (ℕ → ℤ) → ℕ → ℕ → List ℤ
each f g zero = []
each f g (suc n) = f g ∷ each f (suc g) n

-- the defaults of generators 0 to 60
abbrev pub defaults : List ℤ
defaults = each default_of 0 61

-- the instrument's values: the default where a generator is not there
unfoldable pub own_values : List ℕ → Parts → Layer → List ℤ
own_values b m l = poured b m.instruments l.instrument (poured b m.instruments l.beside defaults)

-- the preset's values: 0 where a generator is not there
unfoldable pub added_values : List ℕ → Parts → Layer → List ℤ
added_values b m l = poured b m.presets l.preset (poured b m.presets l.above (replicate 61 (pos 0)))
