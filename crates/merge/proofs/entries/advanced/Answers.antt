-- `advanced` meets its contract.
use mathlib.Core.Path.{refl, sym, subst, ◌∙◌}
use Rattle.smf.specs.declared.Item.{Item}
use Rattle.merge.specs.Internal.Entries.{EndsIn}
use Rattle.merge.proofs.EntriesLaws.{gone-settled, going, on-bad, on-end, on-passed, on-tempo, on-channel}
use Rattle.merge.proofs.entries.advanced.Goals as goal

pub settled-requires : goal.settled-requires
settled-requires c = let a = c.args in
    let s = c.requires in
    let i = c.in-Passed.is in
    let p = subst (λ (x : Item). EndsIn a.e.place a.e.end x) i s.seated.item_in in
    going a.b.now a.e _ _ s i refl p.0

pub settled-requires-in-Tempo : goal.settled-requires-in-Tempo
settled-requires-in-Tempo c = let a = c.args in
    let s = c.requires in
    let i = c.in-Tempo.is in
    let p = subst (λ (x : Item). EndsIn a.e.place a.e.end x) i s.seated.item_in in
    going a.b.now a.e _ _ s i refl p.0

pub settled-requires-in-Channel : goal.settled-requires-in-Channel
settled-requires-in-Channel c = let a = c.args in
    let s = c.requires in
    let i = c.in-Channel.is in
    let p = subst (λ (x : Item). EndsIn a.e.place a.e.end x) i s.seated.item_in in
    going a.b.now a.e _ _ s i refl p.0

pub returns-in-Bad : goal.returns-in-Bad
returns-in-Bad c = let e = c.gone_from.ensures in
    record { value = e ∙ sym (on-bad c.args.b.now c.args.e c.in-Bad.is); settled = rw e (gone-settled c.args.b.now c.args.e c.requires) }

pub returns-in-End : goal.returns-in-End
returns-in-End c = let e = c.gone_from-in-End.ensures in
    record { value = e ∙ sym (on-end c.args.b.now c.args.e c.in-End.is); settled = rw e (gone-settled c.args.b.now c.args.e c.requires) }

pub returns-in-Passed : goal.returns-in-Passed
returns-in-Passed c = let a = c.args in
    record { value = c.settled.ensures.value ∙ sym (on-passed a.b.now a.e _ c.in-Passed.is); settled = c.settled.ensures.settled }

pub returns-in-Tempo : goal.returns-in-Tempo
returns-in-Tempo c = let a = c.args in
    record { value = c.settled-in-Tempo.ensures.value ∙ sym (on-tempo a.b.now a.e _ _ c.in-Tempo.is); settled = c.settled-in-Tempo.ensures.settled }

pub returns-in-Channel : goal.returns-in-Channel
returns-in-Channel c = let a = c.args in
    record { value = c.settled-in-Channel.ensures.value ∙ sym (on-channel a.b.now a.e _ _ _ _ c.in-Channel.is); settled = c.settled-in-Channel.ensures.settled }
