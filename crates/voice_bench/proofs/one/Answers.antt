-- A round starts at sums of zeros.
use Rattle.std.proofs.Common.{lit≤}
use Rattle.voice.proofs.SumsLaws.{zeros-small}
use Rattle.voice_bench.proofs.one.Goals as goal

pub round-requires : goal.round-requires
round-requires c = (lit≤ tt, zeros-small 8192)
