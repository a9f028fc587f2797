-- `good_places` meets its contract.
use mathlib.Core.Bool.{◌&&◌}
use mathlib.Core.Path.{◌≡◌, ◌∙◌, sym, refl}
use lib.IntN.{pos}
use lib.Signed.{lt_z, le_z}
use mir.Facts.{to_z-of_z}
use Rattle.records.specs.Windows.{good_places}
use Rattle.records.proofs.JoinLaws.{and_yes, and_no}
use Rattle.records.proofs.windows.good_places.Goals as goal
use Rattle.records.proofs.windows.good_places.Goals.{then-start-ge0, else-start-ge0, then-start-end, else-start-end, then-start-from, else-start-from}

pub returns-then-not-looping : goal.returns-then-not-looping
unfolding good_places
returns-then-not-looping c = let low-some : c.if-start-ge0.value ≡ (le_z (pos 0) c.args.start && lt_z c.args.start c.args.end) = let a = c.args in
    let f = c.ranges in
    let low = le_z (pos 0) a.start in
    let some = lt_z a.start a.end in
    elim c.if-start-ge0.branch [ then-start-ge0 w ↦ and_yes low some (rw (to_z-of_z f.start) at w.if-start-ge0.true) (rw (to_z-of_z f.start, to_z-of_z f.end) at w.value-is) | else-start-ge0 w ↦ and_no low some (rw (to_z-of_z f.start) at w.if-start-ge0.false) (w.value-is ∙ w.if-start-ge0.false) ] in
    let high : c.if-start-end.value ≡ (c.if-start-ge0.value && lt_z c.args.end (pos 4294967296)) = let test = c.if-start-ge0.value in
    let high = lt_z c.args.end (pos 4294967296) in
    elim c.if-start-end.branch [ then-start-end w ↦ and_yes test high w.if-start-end.true (rw (to_z-of_z c.ranges.end) at w.value-is) | else-start-end w ↦ and_no test high w.if-start-end.false (w.value-is ∙ w.if-start-end.false) ] in
    let front : c.if-start-end.value ≡ (le_z (pos 0) c.args.start && lt_z c.args.start c.args.end && lt_z c.args.end (pos 4294967296)) = rw (← low-some) (high) in
    rw (sym (front) ∙ c.if-end-lt4294967296.true, c.if-not-looping.true) refl

pub returns-then-from-to : goal.returns-then-from-to
unfolding good_places
returns-then-from-to c = let low-some : c.if-start-ge0.value ≡ (le_z (pos 0) c.args.start && lt_z c.args.start c.args.end) = let a = c.args in
    let f = c.ranges in
    let low = le_z (pos 0) a.start in
    let some = lt_z a.start a.end in
    elim c.if-start-ge0.branch [ then-start-ge0 w ↦ and_yes low some (rw (to_z-of_z f.start) at w.if-start-ge0.true) (rw (to_z-of_z f.start, to_z-of_z f.end) at w.value-is) | else-start-ge0 w ↦ and_no low some (rw (to_z-of_z f.start) at w.if-start-ge0.false) (w.value-is ∙ w.if-start-ge0.false) ] in
    let high : c.if-start-end.value ≡ (c.if-start-ge0.value && lt_z c.args.end (pos 4294967296)) = let test = c.if-start-ge0.value in
    let high = lt_z c.args.end (pos 4294967296) in
    elim c.if-start-end.branch [ then-start-end w ↦ and_yes test high w.if-start-end.true (rw (to_z-of_z c.ranges.end) at w.value-is) | else-start-end w ↦ and_no test high w.if-start-end.false (w.value-is ∙ w.if-start-end.false) ] in
    let front : c.if-start-end.value ≡ (le_z (pos 0) c.args.start && lt_z c.args.start c.args.end && lt_z c.args.end (pos 4294967296)) = rw (← low-some) (high) in
    let inner : c.if-start-from.value ≡ (le_z c.args.start c.args.from && lt_z c.args.from c.args.to) = let a = c.args in
    let f = c.ranges in
    let low = le_z a.start a.from in
    let some = lt_z a.from a.to in
    elim c.if-start-from.branch [ then-start-from w ↦ and_yes low some (rw (to_z-of_z f.start, to_z-of_z f.from) at w.if-start-from.true) (rw (to_z-of_z f.from, to_z-of_z f.to) at w.value-is) | else-start-from w ↦ and_no low some (rw (to_z-of_z f.start, to_z-of_z f.from) at w.if-start-from.false) (w.value-is ∙ w.if-start-from.false) ] in
    let f = c.ranges in
    rw (sym (front) ∙ c.if-end-lt4294967296.true, c.if-not-looping.false, sym (inner) ∙ c.if-from-to.true, to_z-of_z f.to, to_z-of_z f.end) refl

pub returns-else-from-to : goal.returns-else-from-to
unfolding good_places
returns-else-from-to c = let low-some : c.if-start-ge0.value ≡ (le_z (pos 0) c.args.start && lt_z c.args.start c.args.end) = let a = c.args in
    let f = c.ranges in
    let low = le_z (pos 0) a.start in
    let some = lt_z a.start a.end in
    elim c.if-start-ge0.branch [ then-start-ge0 w ↦ and_yes low some (rw (to_z-of_z f.start) at w.if-start-ge0.true) (rw (to_z-of_z f.start, to_z-of_z f.end) at w.value-is) | else-start-ge0 w ↦ and_no low some (rw (to_z-of_z f.start) at w.if-start-ge0.false) (w.value-is ∙ w.if-start-ge0.false) ] in
    let high : c.if-start-end.value ≡ (c.if-start-ge0.value && lt_z c.args.end (pos 4294967296)) = let test = c.if-start-ge0.value in
    let high = lt_z c.args.end (pos 4294967296) in
    elim c.if-start-end.branch [ then-start-end w ↦ and_yes test high w.if-start-end.true (rw (to_z-of_z c.ranges.end) at w.value-is) | else-start-end w ↦ and_no test high w.if-start-end.false (w.value-is ∙ w.if-start-end.false) ] in
    let front : c.if-start-end.value ≡ (le_z (pos 0) c.args.start && lt_z c.args.start c.args.end && lt_z c.args.end (pos 4294967296)) = rw (← low-some) (high) in
    let inner : c.if-start-from.value ≡ (le_z c.args.start c.args.from && lt_z c.args.from c.args.to) = let a = c.args in
    let f = c.ranges in
    let low = le_z a.start a.from in
    let some = lt_z a.from a.to in
    elim c.if-start-from.branch [ then-start-from w ↦ and_yes low some (rw (to_z-of_z f.start, to_z-of_z f.from) at w.if-start-from.true) (rw (to_z-of_z f.from, to_z-of_z f.to) at w.value-is) | else-start-from w ↦ and_no low some (rw (to_z-of_z f.start, to_z-of_z f.from) at w.if-start-from.false) (w.value-is ∙ w.if-start-from.false) ] in
    rw (sym (front) ∙ c.if-end-lt4294967296.true, c.if-not-looping.false, sym (inner) ∙ c.if-from-to.false) c.if-from-to.false

pub returns-else-end-lt4294967296 : goal.returns-else-end-lt4294967296
unfolding good_places
returns-else-end-lt4294967296 c = let low-some : c.if-start-ge0.value ≡ (le_z (pos 0) c.args.start && lt_z c.args.start c.args.end) = let a = c.args in
    let f = c.ranges in
    let low = le_z (pos 0) a.start in
    let some = lt_z a.start a.end in
    elim c.if-start-ge0.branch [ then-start-ge0 w ↦ and_yes low some (rw (to_z-of_z f.start) at w.if-start-ge0.true) (rw (to_z-of_z f.start, to_z-of_z f.end) at w.value-is) | else-start-ge0 w ↦ and_no low some (rw (to_z-of_z f.start) at w.if-start-ge0.false) (w.value-is ∙ w.if-start-ge0.false) ] in
    let high : c.if-start-end.value ≡ (c.if-start-ge0.value && lt_z c.args.end (pos 4294967296)) = let test = c.if-start-ge0.value in
    let high = lt_z c.args.end (pos 4294967296) in
    elim c.if-start-end.branch [ then-start-end w ↦ and_yes test high w.if-start-end.true (rw (to_z-of_z c.ranges.end) at w.value-is) | else-start-end w ↦ and_no test high w.if-start-end.false (w.value-is ∙ w.if-start-end.false) ] in
    let front : c.if-start-end.value ≡ (le_z (pos 0) c.args.start && lt_z c.args.start c.args.end && lt_z c.args.end (pos 4294967296)) = rw (← low-some) (high) in
    rw (sym (front) ∙ c.if-end-lt4294967296.false) c.if-end-lt4294967296.false
