-- Each test is a law of the definition.
use mathlib.Core.Path.{ap, ◌∙◌}
use lib.ListN.{take}
use Rattle.wave.specs.Playback.{same_bytes}
use Rattle.wave.proofs.PlaybackLaws.{by-heading, part-of-a-frame, too_long, too_short}
use Rattle.wave.proofs.playback.is_recording.Goals as goal

pub returns-then-file-lt44 : goal.returns-then-file-lt44
returns-then-file-lt44 c = too_short c.args.file.now c.if-file-lt44.true

pub returns-then-data-ne0 : goal.returns-then-data-ne0
returns-then-data-ne0 c = part-of-a-frame c.args.file.now c.if-file-lt44.false c.if-data-ne0.true

pub returns-then-data-gt1073741814 : goal.returns-then-data-gt1073741814
returns-then-data-gt1073741814 c = too_long c.args.file.now c.if-data-gt1073741814.true

pub returns : goal.returns
returns c = let file = c.args.file.now in
    c.begins.ensures ∙ ap (same_bytes (take 44 file)) c.bytes-head.ensures
    ∙ by-heading file c.if-file-lt44.false c.if-data-ne0.false c.if-data-gt1073741814.false
