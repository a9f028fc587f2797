-- Past 31 refused, else as the slot is shown.
use mathlib.Core.Path.{ap, ◌∙◌}
use borrow.Author.Tests.{lt-ltb, le-ltb}
use Rattle.voice.specs.Panel.{shown}
use Rattle.state.specs.Board.{ask}
use Rattle.state.proofs.board.panel.Goals as goal

pub returns-then-slot-gt31 : goal.returns-then-slot-gt31
unfolding ask
returns-then-slot-gt31 c = simp (lt-ltb _ _ c.if-slot-gt31.true)

pub returns : goal.returns
unfolding ask
returns c = c.show.ensures ∙ ap shown c.slot_of.ensures ∙ simp (le-ltb _ _ c.if-slot-gt31.false)
