-- A turn adds one frame behind those that are added, and takes place, pace and gain one frame on.
use mathlib.Core.Path.{◌≡◌}
use Prim.Native.Nat.{ℕ, ◌+◌, ◌-◌, ◌*◌, ◌<◌, ◌≤◌}
use lib.ListN.{length}
use Rattle.curves.specs.Levels.{gain_of}
use Rattle.voice.specs.declared.Stage.{Stage}
use Rattle.voice.specs.declared.Voice.{Voice}
use Rattle.voice.specs.declared.way.Way.{Way}
use Rattle.voice.specs.Sound.{whole_loss}
use Rattle.voice.specs.Stages.{spent_by}
use Rattle.voice.specs.Internal.Pace.{value_in, stop_in, PaceAt}
use Rattle.voice.specs.Internal.Rounds.{rings}
use Rattle.voice.specs.Internal.Sums.{add_at, Small}
use Rattle.voice.specs.Internal.Way.{place_on}
use Rattle.voice.proofs.rounds.ring.Given as goal

-- frames that may go so
abbrev pub Goes : Voice → Stage → Way → ℕ → Type 0
Goes v s y j = (place_on y v.place j < y.limit) × (value_in v (spent_by j s) < stop_in v s)

abbrev pub invariant-loop-m : goal.invariant-loop-m
invariant-loop-m l = (l.p ≡ place_on l.y l.v.place l.m)
    × ((j : ℕ) → j < l.m → Goes l.v l.s l.y j)
    × PaceAt l.v (spent_by l.m l.s) l.c
    × (l.known ≡ gain_of (whole_loss l.l l.cb))
    × (l.known ≤ 16777216)
    × (l.acc ≡ add_at (2 * l.k) (rings l.l l.sides.left l.sides.right l.w l.v l.s l.y l.m) l.initial.acc)
    × (length l.acc ≡ length l.initial.acc)
    × (2 * (l.k + l.most) ≤ length l.initial.acc)
    × Small 1 (rings l.l l.sides.left l.sides.right l.w l.v l.s l.y l.m)
