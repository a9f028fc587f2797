-- `gen_count` meets its contract.
use Rattle.records.specs.Zones.{gen_count}
use Rattle.records.proofs.zones.gen_count.Goals as goal

pub returns : goal.returns
unfolding gen_count
returns c = cc
