-- All amounts of a zone at once: a list in which operator o has place o.
use Rattle.std.specs.Prelude.{List, [], ◌∷◌, ℕ, suc, ℤ, pos, get_or}
use Rattle.records.specs.Zones.{amount_in}
use Rattle.records.specs.declared.Side.{Side}
use Rattle.records.specs.declared.Zone.{Zone}

-- what stands at places o, o + 1, ..: the zone's amount of that operator, or the number given
unfoldable pub poured_from : List ℕ → Side → Zone → ℕ → List ℤ → List ℤ
poured_from b s z o [] = []
poured_from b s z o (x ∷ xs) = amount_in b s z x o ∷ poured_from b s z (suc o) xs

-- a zone's amounts over a list of numbers given, from operator 0 on
unfoldable pub poured : List ℕ → Side → Zone → List ℤ → List ℤ
poured b s z d = poured_from b s z 0 d

-- what generator g has in such a list
abbrev pub at : List ℤ → ℕ → ℤ
at v g = get_or v g (pos 0)
