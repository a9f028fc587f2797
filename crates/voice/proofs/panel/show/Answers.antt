-- A free slot, or its stage.
use borrow.Author.Tests.{not-true, not-false}
use Rattle.voice.specs.Panel.{shown}
use Rattle.voice.proofs.panel.show.Goals as goal

pub returns-then-not-s : goal.returns-then-not-s
unfolding shown
returns-then-not-s c = simp (not-true c.args.s.sounding c.if-not-s.true)

pub returns : goal.returns
unfolding shown
returns c = simp (not-false c.args.s.sounding c.if-not-s.false) c.show_stage.ensures
