-- Each voice adds at most `loudest`, so 32 of them fit.
use Rattle.voice.specs.Internal.Sums.{Small}
use Rattle.voice_bench.proofs.round.Given as goal

abbrev pub invariant-loop-i : goal.invariant-loop-i
invariant-loop-i l = Small l.i l.acc
