-- The lower claim, and of two equal ones the older.
use mathlib.Core.Path.{sym, ◌∙◌, ap₂}
use borrow.Author.Tests.{lt-ltb, le-ltb}
use lib.Dec.{ltb}
use Rattle.state.proofs.seats.sooner.Goals as goal

pub returns-then-new-old : goal.returns-then-new-old
returns-then-new-old c = let h = sym (ap₂ ltb c.claim_of-new.ensures c.claim_of-old.ensures) ∙ lt-ltb _ _ c.if-new-old.true in
    (simp h, c.requires.0)

pub returns-else-new-old : goal.returns-else-new-old
returns-else-new-old c = let h = sym (ap₂ ltb c.claim_of-new.ensures c.claim_of-old.ensures) ∙ le-ltb _ _ c.if-new-old.false in
    (simp h, c.requires.1)
