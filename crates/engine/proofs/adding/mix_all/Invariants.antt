-- A turn writes frame k: two stores behind what is written.
use Rattle.std.proofs.Common.{◌≡◌, ◌*◌, ◌≤◌, ◌++◌, length, drop}
use Rattle.engine.specs.Internal.Sums.{mixed_to}
use Rattle.engine.proofs.adding.mix_all.Given as goal

abbrev pub invariant-loop-k : goal.invariant-loop-k
invariant-loop-k l = (l.out ≡ mixed_to l.k l.acc ++ drop (2 * l.k) l.initial.out)
    × (length l.out ≡ length l.initial.out)
    × (2 * l.n ≤ length l.acc)
    × (2 * l.n ≤ length l.initial.out)
