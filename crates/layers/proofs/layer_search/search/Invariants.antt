-- `search` meets its contract: the array holds the layers of the zones passed, and the rest is blank.
use mathlib.Core.List.{◌++◌}
use mathlib.Core.Path.{◌≡◌}
use Prim.Native.Nat.{◌<◌}
use lib.ListN.{length}
use Rattle.layers.specs.LayerSearch.{under, layers_below}
use Rattle.layers.proofs.LayerSearchLaws.{padded}
use Rattle.layers.proofs.BarrenLaws.{Known}
use Rattle.layers.proofs.layer_search.search.Given as goal

abbrev pub invariant-loop-j : goal.invariant-loop-j
invariant-loop-j l = let found = layers_below l.b l.p l.i l.key l.velocity l.h l.n ++ under l.b l.i l.key l.velocity l.z l.k l.j in
    (l.pairs ≡ padded found) × (l.found ≡ length found) × (l.found < 33)

abbrev pub invariant-search : goal.invariant-search
invariant-search l = let found = layers_below l.b l.p l.i l.key l.velocity l.h l.n in
    (l.pairs ≡ padded found) × (l.found ≡ length found) × (l.found < 33) × (l.from < 65536) × (l.count < 65536) × (length l.barren ≡ 3072) × Known l.b l.i l.key l.velocity l.barren
