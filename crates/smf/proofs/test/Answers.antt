-- `test` meets its contract.
use mathlib.Core.Path.{sym, ◌∙◌}
use Rattle.smf.proofs.SongsLaws.{test-long, test-head, test-track}
use Rattle.smf.proofs.test.Goals as goal

pub returns-then-file-gt65536 : goal.returns-then-file-gt65536
returns-then-file-gt65536 c = sym (test-long c.args.file.now c.if-file-gt65536.true)

pub returns-in-Refused : goal.returns-in-Refused
returns-in-Refused c = sym (test-head c.args.file.now _ _ c.if-file-gt65536.false (sym c.head-h.ensures ∙ c.in-Refused.is))

pub returns-in-Track : goal.returns-in-Track
returns-in-Track c = let b = c.args.file.now in
    let e = sym c.head-h.ensures ∙ c.in-Track.is in
    rw c.start.ensures at c.test_from.ensures ∙ sym (test-track b _ _ c.if-file-gt65536.false e)
