-- `search` meets its contract: the array holds the layers of the zones passed, and the rest is blank.
use borrow.Author.Rules.{rules}
use mathlib.Core.Bool.{false}
use mathlib.Core.List.{List, ◌++◌, append-nil}
use mathlib.Core.Path.{refl, sym, ap, ap₂, ◌∙◌}
use native.Mathlib.Omega.{arith}
use Prim.Native.Nat.{ℕ, ◌+◌}
use lib.ListN.{length, length-replicate}
use Rattle.records.specs.Zones.{zone_count}
use Rattle.layers.specs.LayerSearch.{under, layers_below, layers_of}
use Rattle.layers.specs.Internal.LayerSearch.{up_to33, searched}
use Rattle.layers.proofs.LayerSearchLaws.{padded, made, stopped, stored, counted, under-yes, under-no, below-turn, in-front, all_found, chosen_by}
use Rattle.layers.proofs.BarrenLaws.{none-known, noted-length, known-again, entered-chosen, passed-by, below-skip}
use Rattle.layers.specs.declared.Pair.{Pair}
use Rattle.layers.proofs.layer_search.search.Goals as goal
use Rattle.layers.proofs.layer_search.search.Goals.{then-picked+else-found-eq33, else-picked, then-enters+else-loop-j-test, else-enters, else-search-test, then-search-test+then-enters+then-loop-j-test+then-picked+then-found-eq33}

pub search-init : goal.search-init
unfolding layers_below padded
search-init c = (refl, refl, search rules, search rules, search rules, length-replicate 3072 false, none-known _ _ _ _ 3072)

pub loop-j-init : goal.loop-j-init
unfolding under
loop-j-init c = (simp append-nil c.search.invariant.0, simp append-nil c.search.invariant.1, c.search.invariant.2)

pub loop-j-preserved : goal.loop-j-preserved
loop-j-preserved c = let a = c.args in
    let b = a.b.now in
    let i = a.m.instruments in
    let z = c.from-from.result + c.search.n in
    let k = c.from-k.result in
    let low = c.from-low.result in
    let begins = c.from-low.ensures ∙ c.bag_of-then-enters.ensures in
    let found = layers_below b a.m.presets i a.key a.velocity a.h c.search.n in
    let u = under b i a.key a.velocity z k in
    let j = c.loop-j.j in
    let asked = chosen_by b i a.key a.velocity k (low + j) _ _ _ c.picked.ensures c.zone_at-inner.ensures c.global_of-beside.ensures in
    let yes = under-yes b i a.key a.velocity z k low begins j in
    let no = under-no b i a.key a.velocity z k low begins j in (
      elim c.if-picked.branch [ then-picked+else-found-eq33 w ↦ w.pairs-is ∙ stored found (u j) (u (j + 1)) _ _ _ c.loop-j.invariant.0 c.loop-j.invariant.1 c.loop-j.invariant.2 (yes (asked ∙ w.if-picked.true)) | else-picked w ↦ w.pairs-is ∙ c.loop-j.invariant.0 ∙ ap (λ (x : List Pair). padded (found ++ x)) (sym (no (asked ∙ w.if-picked.false))) ],
      elim c.if-picked.branch [ then-picked+else-found-eq33 w ↦ w.found-is ∙ counted found (u j) (u (j + 1)) _ _ c.loop-j.invariant.1 (yes (asked ∙ w.if-picked.true)) | else-picked w ↦ w.found-is ∙ c.loop-j.invariant.1 ∙ ap (λ (x : List Pair). length (found ++ x)) (sym (no (asked ∙ w.if-picked.false))) ],
      elim c.if-picked.branch [ then-picked+else-found-eq33 w ↦ omega (arith, c.loop-j.invariant.2) | else-picked w ↦ omega (arith, c.loop-j.invariant.2) ],
    )

pub search-preserved : goal.search-preserved
search-preserved c = let a = c.args in
    let b = a.b.now in
    let p = a.m.presets in
    let i = a.m.instruments in
    let from = c.from-from.result in
    let begins = c.from-from.ensures ∙ c.bag_of.ensures in
    let n = c.search.n in
    let found = layers_below b p i a.key a.velocity a.h n in
    let zone = c.zone_at-zone.result in
    let is = c.zone_at-zone.ensures in
    let barren = c.search.barren in
    let yes = entered-chosen b p a.key a.velocity a.h (from + n) zone _ barren _ c.enters.ensures is c.global_of-above.ensures in
    let no = passed-by b p a.key a.velocity a.h (from + n) zone _ barren _ c.enters.ensures is c.global_of-above.ensures in
    let turn = below-turn b p i a.key a.velocity a.h from begins n in
    let stay = below-skip b p i a.key a.velocity a.h from begins n zone is barren c.search.invariant.6 in (
      elim c.if-enters.branch [ then-enters+else-loop-j-test w ↦ w.pairs-is ∙ (rw w.from-k.ensures at w.loop-j.invariant.0) ∙ ap padded (turn w.from-many.result zone (yes w.if-enters.true) is (rw w.from-k.ensures at (w.from-many.ensures ∙ w.zone_count-then-enters.ensures)) w.loop-j.j (omega (arith, w.loop-j-test.false, w.loop-j.auto.j-end))) | else-enters w ↦ w.pairs-is ∙ c.search.invariant.0 ∙ ap padded (sym (stay (no w.if-enters.false))) ],
      elim c.if-enters.branch [ then-enters+else-loop-j-test w ↦ w.found-is ∙ (rw w.from-k.ensures at w.loop-j.invariant.1) ∙ ap length (turn w.from-many.result zone (yes w.if-enters.true) is (rw w.from-k.ensures at (w.from-many.ensures ∙ w.zone_count-then-enters.ensures)) w.loop-j.j (omega (arith, w.loop-j-test.false, w.loop-j.auto.j-end))) | else-enters w ↦ w.found-is ∙ c.search.invariant.1 ∙ ap length (sym (stay (no w.if-enters.false))) ],
      elim c.if-enters.branch [ then-enters+else-loop-j-test w ↦ omega (arith, w.found-is, w.loop-j.invariant.2) | else-enters w ↦ omega (arith, w.found-is, c.search.invariant.2) ],
      search rules,
      search rules,
      elim c.if-enters.branch [ then-enters+else-loop-j-test w ↦ noted-length barren _ _ _ 3072 (w.barren-is ∙ w.note_barren.ensures) c.search.invariant.5 | else-enters w ↦ ap length w.barren-is ∙ c.search.invariant.5 ],
      elim c.if-enters.branch [ then-enters+else-loop-j-test w ↦ known-again b i a.key a.velocity (from + n) zone.link barren _ found c.search.found w.loop-j.found w.loop-j.j c.search.invariant.6 c.search.invariant.1 (rw w.from-k.ensures at w.loop-j.invariant.1) (omega (arith, w.loop-j-test.false, w.loop-j.auto.j-end, rw w.from-k.ensures at (w.from-many.ensures ∙ w.zone_count-then-enters.ensures))) (w.barren-is ∙ w.note_barren.ensures) | else-enters w ↦ rw w.barren-is c.search.invariant.6 ],
    )

pub returns : goal.returns
unfolding searched layers_of
returns c = let a = c.args in
    let b = a.b.now in
    let p = a.m.presets in
    let i = a.m.instruments in
    let from = c.from-from.result in
    let begins = c.from-from.ensures ∙ c.bag_of.ensures in
    let n = c.search.n in
    let l = layers_below b p i a.key a.velocity a.h in
    let front = in-front b p i a.key a.velocity a.h from begins n in
    let all = zone_count b p a.h in
    let counts = c.from-count.ensures ∙ c.zone_count.ensures in
    elim c.search-test.branch [
      | else-search-test w ↦ ap₂ made (w.found-is ∙ c.search.invariant.1) (w.pairs-is ∙ c.search.invariant.0) ∙ sym (all_found (l n) (omega (arith, c.search.invariant.1, c.search.invariant.2))) ∙ ap (λ (x : ℕ). up_to33 (l x)) (omega (arith, w.search-test.false, c.search.auto.n-end, counts))
      | then-search-test+then-enters+then-loop-j-test+then-picked+then-found-eq33 w ↦ let k = w.from-k.result in
          let j = w.loop-j.j in
          let u = under b i a.key a.velocity (from + n) k in
          let outer = entered-chosen b p a.key a.velocity a.h (from + n) w.zone_at-zone.result _ c.search.barren _ w.enters.ensures w.zone_at-zone.ensures c.global_of-above.ensures w.if-enters.true in
          let inner = chosen_by b i a.key a.velocity k (w.from-low.result + j) _ _ _ w.picked.ensures w.zone_at-inner.ensures w.global_of-beside.ensures ∙ w.if-picked.true in
          let next = under-yes b i a.key a.velocity (from + n) k w.from-low.result (w.from-low.ensures ∙ w.bag_of-then-enters.ensures) j inner in
          let rest = front w.from-many.result w.zone_at-zone.result outer w.zone_at-zone.ensures (rw w.from-k.ensures at (w.from-many.ensures ∙ w.zone_count-then-enters.ensures)) j all (omega (arith, w.loop-j-test.true)) (omega (arith, w.search-test.true, counts)) in
          ap₂ made w.found-is w.pairs-is ∙ stopped (l n) (u j) (u (j + 1)) (l all) _ _ _ w.loop-j.invariant.0 w.loop-j.invariant.1 w.if-found-eq33.true next (rw (← w.from-k.ensures) at rest)
    ]
