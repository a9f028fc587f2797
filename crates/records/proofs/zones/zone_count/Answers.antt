-- `zone_count` meets its contract.
use Rattle.records.specs.Zones.{zone_count}
use Rattle.records.proofs.zones.zone_count.Goals as goal

pub returns : goal.returns
unfolding zone_count
returns c = cc
