-- Each number of the noise is one of 16 bits.
use Rattle.std.proofs.Common.{◌<◌}
use Rattle.voice_bench.proofs.samples.Given as goal

abbrev pub invariant-loop-s : goal.invariant-loop-s
invariant-loop-s l = l.x < 65536
