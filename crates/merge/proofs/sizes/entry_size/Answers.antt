-- `entry_size` meets its contract.
use Rattle.merge.proofs.LinesLaws.{tempo-length, channel-length}
use mathlib.Core.Path.{refl}
use native.Mathlib.Omega.{arith}
use Rattle.merge.specs.Internal.Lines.{entry_bytes}
use Rattle.merge.proofs.sizes.entry_size.Goals as goal

pub returns-in-Bad : goal.returns-in-Bad
unfolding entry_bytes
returns-in-Bad c = (rw c.in-Bad.is refl, omega arith)

pub returns-in-End : goal.returns-in-End
unfolding entry_bytes
returns-in-End c = (rw c.in-End.is refl, omega arith)

pub returns-in-Passed : goal.returns-in-Passed
unfolding entry_bytes
returns-in-Passed c = (rw c.in-Passed.is refl, omega arith)

pub returns-in-Tempo : goal.returns-in-Tempo
returns-in-Tempo c = let a = c.args in
    let g = rw c.gap-ticks.ensures at (c.gap_size.ensures.0 a.l.tempo) in
    (tempo-length a.l a.e _ _ _ c.in-Tempo.is g, omega (arith, c.gap_size.ensures.1))

pub returns-in-Channel : goal.returns-in-Channel
returns-in-Channel c = let a = c.args in
    let d = c.gap-ticks.ensures in
    let g = rw d at (c.gap_size-in-Channel.ensures.0 a.l.tempo) in
    let r = rw d at c.running_after.ensures in
    (channel-length a.l a.e _ _ _ _ _ _ _ c.in-Channel.is r g c.channel_size.ensures.0, omega (arith, c.gap_size-in-Channel.ensures.1, c.channel_size.ensures.1))
