-- `number_fault` meets its contract.
use Rattle.bank.specs.Links.{number_fault}
use Rattle.bank.proofs.links.number_fault.Goals as goal

pub returns : goal.returns
unfolding number_fault
returns c = cc
