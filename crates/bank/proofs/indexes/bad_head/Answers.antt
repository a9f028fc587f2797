-- `bad_head` meets its contract.
use Rattle.bank.specs.Indexes.{bad_head}
use Rattle.records.specs.Sides.{bag_of}
use Rattle.bank.proofs.IndexesLaws.{index_read}
use Rattle.bank.proofs.indexes.bad_head.Goals as goal

pub returns : goal.returns
unfolding bad_head
returns c = let a = c.args in
    index_read (bag_of a.b.now a.s) a.h a.s.nheads a.s.nbags c.less.ensures c.bag_of.ensures c.bag_of-2.ensures c.bad_index.ensures
