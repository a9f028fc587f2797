-- `open` meets its contract.
use mathlib.Core.Path.{sym, ap, ◌∙◌}
use Rattle.smf.specs.declared.Tested.{Tested}
use Rattle.smf.proofs.SongsLaws.{opened-bad, opened-good}
use Rattle.smf.proofs.open.Goals as goal

pub returns-then-t-ne0 : goal.returns-then-t-ne0
returns-then-t-ne0 c = let b = c.args.file.now in
    rw (c.no_cursor.ensures, c.test-t.ensures) (sym (opened-bad b (λ z. c.if-t-ne0.true (ap (λ (x : Tested). x.number) c.test-t.ensures ∙ z))))

pub first_cursor-requires : goal.first_cursor-requires
first_cursor-requires c = (opened-good c.args.file.now (sym (ap (λ (x : Tested). x.number) c.test-t.ensures) ∙ c.if-t-ne0.false)).0

pub returns : goal.returns
returns c = let b = c.args.file.now in
    let e = (opened-good b (sym (ap (λ (x : Tested). x.number) c.test-t.ensures) ∙ c.if-t-ne0.false)).1 in
    rw c.first_cursor.ensures (sym e)
