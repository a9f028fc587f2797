-- Each voice adds at most `loudest`, so 32 of them fit.
use Rattle.std.proofs.Common.{◌+◌, sym, subst, arith}
use Rattle.arith.proofs.WithinLaws.{w_le}
use Rattle.voice.specs.Internal.Sums.{Small}
use Rattle.voice.proofs.SumsLaws.{add_to-small}
use Rattle.voice_bench.proofs.round.Goals as goal

pub run-t-requires : goal.run-t-requires
run-t-requires c = record {
  sums = (omega arith, λ j. w_le (c.loop-i.invariant j) (omega arith));
}

pub loop-i-preserved : goal.loop-i-preserved
loop-i-preserved c = subst (Small (c.loop-i.i + 1)) (sym c.run-t.ensures.1) (add_to-small _ c.loop-i.acc c.loop-i.i c.run-t.ensures.2 c.loop-i.invariant)
