-- A turn goes on to the next event, and applies it where frames are left.
use Rattle.std.proofs.Common.{◌≡◌, ◌+◌, ◌-◌, ◌*◌, ◌≤◌, ◌++◌, length, take, drop}
use Rattle.player.specs.Playing.{performed, numbers}
use Rattle.player.proofs.CuesLaws.{left}
use Rattle.player.proofs.PlayingLaws.{Bounded}
use Rattle.player.proofs.playing.play_on.Given as goal

abbrev pub invariant-loop-k : goal.invariant-loop-k
invariant-loop-k l = (l.k ≤ l.n)
    × (length l.out ≡ length l.initial.out)
    × (performed l.file l.bank l.ram l.rom l.n l.initial.x ≡ performed l.file l.bank l.ram l.rom (l.n - l.k) l.x)
    × (numbers l.file l.bank l.ram l.rom l.n l.initial.x ≡ take (2 * l.k) l.out ++ numbers l.file l.bank l.ram l.rom (l.n - l.k) l.x)
    × (l.out ≡ take (2 * l.k) l.out ++ drop (2 * l.k) l.initial.out)
    × ((2 * l.x.applied + left l.file l.x.player ≤ 4294967296) × (l.x.refused ≤ l.x.applied))
    × Bounded l.x.player

abbrev pub decreases-loop-k : goal.decreases-loop-k
decreases-loop-k l = l.n - l.k + left l.file l.x.player
