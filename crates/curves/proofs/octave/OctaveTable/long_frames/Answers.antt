-- The frames of a time held to 8000 timecents.
use mir.Facts.{to_z-of_z}
use Rattle.curves.proofs.octave.OctaveTable.long_frames.Goals as goal

pub returns : goal.returns
returns c = rw (to_z-of_z c.ranges.time) at c.frames_to.ensures
