-- A turn looks at slot i: none before it lacks its window.
use Rattle.std.proofs.Common.{◌≡◌, false, length, take}
use Rattle.state.specs.Slots.{slots_of}
use Rattle.engine.specs.Rendering.{lacking}
use Rattle.engine.proofs.rendering.lacks.Given as goal

abbrev pub invariant-loop-i : goal.invariant-loop-i
invariant-loop-i l = (length (slots_of l.e) ≡ 32) × (false ≡ lacking l.ram l.rom (take l.i (slots_of l.e)))
