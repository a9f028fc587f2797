-- `chunk_end` meets its contract.
use borrow.Author.Rules.{rules}
use Rattle.smf.specs.Head.{chunk_end}
use Rattle.smf.proofs.head.chunk_end.Goals as goal

pub returns : goal.returns
unfolding chunk_end
returns c = search rules
