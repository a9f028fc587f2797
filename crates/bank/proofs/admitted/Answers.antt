-- `bank::admitted` meets its contract.
use Rattle.bank.specs.Admission.{admitted}
use Rattle.bank.proofs.admitted.Goals as goal

pub returns : goal.returns
unfolding admitted
returns c = cc
