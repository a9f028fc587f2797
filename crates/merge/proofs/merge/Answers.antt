-- `merge` meets its contract.
use mathlib.Core.Path.{refl, sym, subst, ◌∙◌}
use Rattle.merge.specs.declared.Front.{Front}
use Rattle.merge.specs.Merging.{room_of}
use Rattle.merge.proofs.FrontsLaws.{FrontIn, front-in}
use Rattle.merge.proofs.MergingLaws.{merged-long, merged-front, merged-song}
use Rattle.merge.proofs.merge.Goals as goal

pub returns-then-file-gt16777216 : goal.returns-then-file-gt16777216
returns-then-file-gt16777216 c = let a = c.args in
    rw (merged-long a.file.now (room_of a.out.now) c.if-file-gt16777216.true) (record { value = c.refused.ensures; output = refl })

pub join-requires : goal.join-requires
join-requires c = let a = c.args in
    let f = sym c.front-f.ensures ∙ c.in-Song.is in
    let i = subst (λ (x : Front). FrontIn a.file.now x) f (front-in a.file.now) in
    (c.if-file-gt16777216.false, i.0, i.1)

pub returns-in-Refused : goal.returns-in-Refused
returns-in-Refused c = let a = c.args in
    let f = sym c.front-f.ensures ∙ c.in-Refused.is in
    rw (merged-front a.file.now (room_of a.out.now) _ _ c.if-file-gt16777216.false f) (record { value = c.refused-in-Refused.ensures; output = refl })

pub returns-in-Song : goal.returns-in-Song
returns-in-Song c = let a = c.args in
    let f = sym c.front-f.ensures ∙ c.in-Song.is in
    rw (merged-song a.file.now (room_of a.out.now) _ _ _ c.if-file-gt16777216.false f) (record { value = c.join.ensures.value; output = c.join.ensures.output })
