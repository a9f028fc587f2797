-- One voice a turn.
use mathlib.Core.Path.{◌≡◌}
use mathlib.Core.List.{map}
use lib.ListN.{length, take}
use Rattle.cabinet.specs.Twins.{voice_to}
use Rattle.cabinet.proofs.twins.FlatEngineFromEngine.from.Given as goal

abbrev pub invariant-loop-i : goal.invariant-loop-i
invariant-loop-i l = (length l.e.voices ≡ 32) × (length l.voices ≡ length l.e.voices) × (take l.i l.voices ≡ map voice_to (take l.i l.e.voices))
