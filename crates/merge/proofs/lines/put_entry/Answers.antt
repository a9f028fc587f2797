-- `put_entry` meets its contract.
use mathlib.Core.List.{◌∷◌}
use mathlib.Core.Path.{sym}
use Prim.Native.Nat.{◌-◌}
use native.Mathlib.Omega.{arith}
use lib.ListN.{length-append}
use mathlib.Core.Bool.{true}
use Rattle.smf.specs.Spelling.{Mark, event_bytes, three_bytes}
use Rattle.merge.specs.Internal.Lines.{gap_bytes, running_after}
use Rattle.merge.proofs.LinesLaws.{entry-tempo, entry-channel, entry-bad, entry-end, entry-passed}
use Rattle.merge.proofs.PagesLaws.{laid_none, room-then, laid_then}
use Rattle.merge.proofs.lines.put_entry.Goals as goal

pub put_gap-p-requires : goal.put_gap-p-requires
put_gap-p-requires c = let a = c.args in
    let p = rw (entry-tempo a.l a.e _ _ c.in-Tempo.is) at c.requires in
    rw c.gap-ticks.ensures (omega (arith, p, length-append (gap_bytes a.l.tempo (a.e.tick - a.l.tick)) (255 ∷ 81 ∷ 3 ∷ three_bytes c.in-Tempo.tempo)))

pub put_tempo-requires : goal.put_tempo-requires
unfolding three_bytes
put_tempo-requires c = let a = c.args in
    let p = rw (entry-tempo a.l a.e _ _ c.in-Tempo.is) at c.requires in
    let w-value = rw c.gap-ticks.ensures at c.put_gap-p.ensures.value in
    let w-output = rw c.gap-ticks.ensures at c.put_gap-p.ensures.output in
    room-then a.out.now a.at (gap_bytes a.l.tempo (a.e.tick - a.l.tick)) (255 ∷ 81 ∷ 3 ∷ three_bytes c.in-Tempo.tempo) p _ _ w-value w-output

pub put_gap-p-requires-in-Channel : goal.put_gap-p-requires-in-Channel
put_gap-p-requires-in-Channel c = let a = c.args in
    let p = rw (entry-channel a.l a.e _ _ _ _ c.in-Channel.is) at c.requires in
    rw c.gap-ticks.ensures (omega (arith, p, length-append (gap_bytes a.l.tempo (a.e.tick - a.l.tick)) (event_bytes true (running_after a.l.running (a.e.tick - a.l.tick)) (Mark.Channel 0 c.in-Channel.status c.in-Channel.first c.in-Channel.second))))

pub put_channel-requires : goal.put_channel-requires
put_channel-requires c = let a = c.args in
    let p = rw (entry-channel a.l a.e _ _ _ _ c.in-Channel.is) at c.requires in
    let w-value = rw c.gap-ticks.ensures at c.put_gap-p-in-Channel.ensures.value in
    let w-output = rw c.gap-ticks.ensures at c.put_gap-p-in-Channel.ensures.output in
    let r = rw c.gap-ticks.ensures at c.running_after.ensures in
    rw r (room-then a.out.now a.at (gap_bytes a.l.tempo (a.e.tick - a.l.tick)) (event_bytes true (running_after a.l.running (a.e.tick - a.l.tick)) (Mark.Channel 0 c.in-Channel.status c.in-Channel.first c.in-Channel.second)) p _ _ w-value w-output)

pub returns-in-Bad : goal.returns-in-Bad
returns-in-Bad c = let a = c.args in
    let e = entry-bad a.l a.e c.in-Bad.is in
    rw e (record { value = omega arith; output = sym (laid_none a.out.now a.at) })

pub returns-in-End : goal.returns-in-End
returns-in-End c = let a = c.args in
    let e = entry-end a.l a.e c.in-End.is in
    rw e (record { value = omega arith; output = sym (laid_none a.out.now a.at) })

pub returns-in-Passed : goal.returns-in-Passed
returns-in-Passed c = let a = c.args in
    let e = entry-passed a.l a.e _ c.in-Passed.is in
    rw e (record { value = omega arith; output = sym (laid_none a.out.now a.at) })

pub returns-in-Tempo : goal.returns-in-Tempo
unfolding three_bytes
returns-in-Tempo c = let a = c.args in
    let e = entry-tempo a.l a.e _ _ c.in-Tempo.is in
    let p = rw e at c.requires in
    let w-value = rw c.gap-ticks.ensures at c.put_gap-p.ensures.value in
    let w-output = rw c.gap-ticks.ensures at c.put_gap-p.ensures.output in
    let answer = laid_then a.out.now a.at (gap_bytes a.l.tempo (a.e.tick - a.l.tick)) (255 ∷ 81 ∷ 3 ∷ three_bytes c.in-Tempo.tempo) p _ _ w-value w-output _ _ c.put_tempo.ensures.value c.put_tempo.ensures.output in
    rw e (record { value = answer.0; output = answer.1 })

pub returns-in-Channel : goal.returns-in-Channel
returns-in-Channel c = let a = c.args in
    let e = entry-channel a.l a.e _ _ _ _ c.in-Channel.is in
    let p = rw e at c.requires in
    let w-value = rw c.gap-ticks.ensures at c.put_gap-p-in-Channel.ensures.value in
    let w-output = rw c.gap-ticks.ensures at c.put_gap-p-in-Channel.ensures.output in
    let r = rw c.gap-ticks.ensures at c.running_after.ensures in
    let t-value = rw r at c.put_channel.ensures.value in
    let t-output = rw r at c.put_channel.ensures.output in
    let answer = laid_then a.out.now a.at (gap_bytes a.l.tempo (a.e.tick - a.l.tick)) (event_bytes true (running_after a.l.running (a.e.tick - a.l.tick)) (Mark.Channel 0 c.in-Channel.status c.in-Channel.first c.in-Channel.second)) p _ _ w-value w-output _ _ t-value t-output in
    rw e (record { value = answer.0; output = answer.1 })
