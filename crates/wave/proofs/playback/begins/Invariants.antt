-- The first i bytes are the heading's.
use mathlib.Core.Path.{◌≡◌}
use lib.ListN.{take}
use Rattle.wave.proofs.playback.begins.Given as goal

abbrev pub invariant-loop-i : goal.invariant-loop-i
invariant-loop-i l = take l.i l.file ≡ take l.i l.head
