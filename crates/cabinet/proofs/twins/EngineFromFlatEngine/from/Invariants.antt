-- One voice a turn.
use mathlib.Core.Path.{◌≡◌}
use mathlib.Core.List.{map}
use lib.ListN.{length, take}
use Rattle.cabinet.specs.Twins.{voice_of_twin}
use Rattle.cabinet.proofs.twins.EngineFromFlatEngine.from.Given as goal

abbrev pub invariant-loop-i : goal.invariant-loop-i
invariant-loop-i l = (length l.f.voices ≡ 32) × (length l.voices ≡ length l.f.voices) × (take l.i l.voices ≡ map voice_of_twin (take l.i l.f.voices))
