-- A turn starts one layer.
use mathlib.Core.Path.{◌≡◌}
use lib.ListN.{take}
use Rattle.events.specs.Starting.{start_all}
use Rattle.events.specs.Internal.Starting.{started_of}
use Rattle.events.proofs.starting.start_all.Given as goal

abbrev pub invariant-loop-v : goal.invariant-loop-v
invariant-loop-v l = started_of l.b ≡ start_all (take l.v-index l.voices) (started_of l.initial.b)
