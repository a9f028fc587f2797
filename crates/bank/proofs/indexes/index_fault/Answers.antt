-- `index_fault` meets its contract.
use Rattle.bank.specs.Indexes.{index_fault}
use Rattle.bank.proofs.indexes.index_fault.Goals as goal

pub returns : goal.returns
unfolding index_fault
returns c = cc
