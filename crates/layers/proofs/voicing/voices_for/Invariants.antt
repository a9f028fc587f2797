-- `voices_for` meets its contract.
use mathlib.Core.Path.{◌≡◌}
use Prim.Native.Nat.{◌≤◌}
use Rattle.layers.specs.LayerSearch.{layers_of}
use Rattle.layers.proofs.StruckLaws.{filled}
use Rattle.layers.specs.Voicing.{voice_of}
use Rattle.layers.proofs.voicing.voices_for.Given as goal

abbrev pub invariant-loop-i : goal.invariant-loop-i
invariant-loop-i l = (l.voices ≡ filled (voice_of l.b l.m l.h l.channel l.key l.velocity) (layers_of l.b l.m l.key l.velocity l.h) l.i) × (l.n ≤ 32)
