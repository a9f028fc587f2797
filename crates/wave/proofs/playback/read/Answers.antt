-- The tests are those of the definition, in its order.
use borrow.Author.Tests.{not-false, not-true}
use mathlib.Core.Path.{subst, sym, ◌∙◌}
use native.Mathlib.Omega.{arith}
use lib.Dec.{T}
use Rattle.wave.proofs.PlaybackLaws.{read_done, read-other, read_short, taken-frames, taken-length}
use Rattle.wave.proofs.playback.read.Goals as goal

pub returns-then-not-is_recording : goal.returns-then-not-is_recording
returns-then-not-is_recording c = let answer = read-other c.args.file.now c.args.out.now (sym c.is_recording.ensures ∙ not-true _ c.if-not-is_recording.true-raw) in
    record { value = answer.0; output = answer.1 }

pub overflow_sub-frames : goal.overflow_sub-frames
overflow_sub-frames c = let such = sym c.is_recording.ensures ∙ not-false _ c.if-not-is_recording.false-raw in
    let whole = taken-length c.args.file.now (subst T (sym such) tt) in
    omega (arith, whole)

pub returns-then-out-frames : goal.returns-then-out-frames
returns-then-out-frames c = let answer = read_short c.args.file.now c.args.out.now (sym c.is_recording.ensures ∙ not-false _ c.if-not-is_recording.false-raw) c.if-out-frames.true in
    record { value = answer.0; output = answer.1 }

pub overflow_cast-result : goal.overflow_cast-result
overflow_cast-result c = let file = c.args.file.now in
    let most = taken-frames file (subst T (sym (not-false _ c.if-not-is_recording.false-raw) ∙ c.is_recording.ensures) tt) in
    record { fits = omega (arith, most) }

pub returns : goal.returns
returns c = let answer = read_done c.args.file.now c.args.out.now c.fill.new.out (sym c.is_recording.ensures ∙ not-false _ c.if-not-is_recording.false-raw) c.if-out-frames.false c.fill.ensures in
    record { value = answer.0; output = answer.1 }
