-- Refused by its test, or begun with its first event.
use Rattle.std.proofs.Common.{eqb, sym, ap, ◌∙◌, eq-eqb, ne_eqb}
use Rattle.smf.specs.declared.Opening.{Opening}
use Rattle.player.specs.Pauses.{started}
use Rattle.player.proofs.pauses.start.Goals as goal

pub returns-then-o-ne0 : goal.returns-then-o-ne0
unfolding started
returns-then-o-ne0 c = let q = c.open-o.ensures in
    let z = sym (ap (λ (o : Opening). eqb o.number 0) q) ∙ ne_eqb c.open-o.result.number 0 c.if-o-ne0.true in
    rw q (simp z)

pub returns : goal.returns
unfolding started
returns c = let q = c.open-o.ensures in
    let z = sym (ap (λ (o : Opening). eqb o.number 0) q) ∙ eq-eqb c.open-o.result.number 0 c.if-o-ne0.false in
    simp (c.cue.ensures, c.next.ensures, c.freshen_all.ensures, c.hush_all.ensures, q, z)
