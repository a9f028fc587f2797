-- The first i numbers are the file's, the others as they were.
use mathlib.Core.Path.{◌≡◌}
use mathlib.Core.List.{◌++◌}
use lib.ListN.{length, take, drop}
use Rattle.wave.specs.Playback.{pcms_in}
use Rattle.wave.proofs.playback.fill.Given as goal

abbrev pub invariant-loop-i : goal.invariant-loop-i
invariant-loop-i l = (length l.out ≡ length l.initial.out) × (l.out ≡ take l.i (pcms_in (drop 44 l.file)) ++ drop l.i l.initial.out)
