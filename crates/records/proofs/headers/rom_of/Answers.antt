-- `rom_of` meets its contract.
use Rattle.records.specs.Headers.{rom_of}
use Rattle.records.proofs.headers.rom_of.Goals as goal

pub returns : goal.returns
unfolding rom_of
returns c = cc
