-- The frames of a time held to top.
use mathlib.Core.Path.{sym, ap, ◌∙◌}
use lib.IntN.{pos}
use mir.Facts.{to_z-of_z}
use Rattle.curves.specs.Times.{frames_up}
use Rattle.curves.proofs.TimesLaws.{no_frames, some-frames}
use Rattle.curves.proofs.octave.OctaveTable.frames_to.Goals as goal

pub returns-then-time-leminus32768 : goal.returns-then-time-leminus32768
returns-then-time-leminus32768 c = sym (no_frames (pos c.args.top) c.args.time (rw (to_z-of_z c.ranges.time) at c.if-time-leminus32768.true))

pub returns : goal.returns
returns c = let e = rw (to_z-of_z c.ranges.time) at c.lift.ensures.0 in
    c.frames_up.ensures ∙ ap frames_up e ∙ sym (some-frames (pos c.args.top) c.args.time (rw (to_z-of_z c.ranges.time) at c.if-time-leminus32768.false))
