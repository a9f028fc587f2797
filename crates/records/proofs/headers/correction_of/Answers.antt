-- `correction_of` meets its contract.
use borrow.Author.Rules.{sfits_of}
use mir.Facts.{to_z-of_z}
use Rattle.arith.specs.Bytes.{i8_at}
use Rattle.records.proofs.headers.correction_of.Goals as goal

pub returns : goal.returns
unfolding i8_at
returns c = rw (to_z-of_z (sfits_of c.signed8.type_inv)) (cc)
