-- The hash so far is that over the items passed.
use Rattle.std.proofs.Common.{◌≡◌, take}
use Rattle.cases.specs.Internal.Hash.{hash_each}
use Rattle.cases.proofs.hash.fnv.Given as goal

abbrev pub invariant-loop-x : goal.invariant-loop-x
invariant-loop-x g l = l.h ≡ hash_each g.T.Hashed.after l.initial.h (take l.x-index l.items)
