-- `start_of` meets its contract.
use borrow.Author.Rules.{sfits_of}
use mir.Facts.{to_z-of_z}
use Rattle.records.specs.Windows.{start_of}
use Rattle.records.proofs.windows.start_of.Goals as goal

pub returns : goal.returns
unfolding start_of
returns c = rw (to_z-of_z (sfits_of c.place_moved.type_inv)) c.place_moved.ensures
