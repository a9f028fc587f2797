-- The hash so far is that over the items passed.
use Rattle.std.proofs.Common.{◌<◌, ◌≤◌, length, sym, ap, ◌∙◌, refl, arith, take_all}
use Rattle.cases.specs.Internal.Hash.{hash_each}
use Rattle.cases.proofs.HashLaws.{hash-step}
use Rattle.cases.proofs.hash.fnv.Goals as goal

pub loop-x-init : goal.loop-x-init
unfolding hash_each
loop-x-init g c = refl

pub loop-x-preserved : goal.loop-x-preserved
loop-x-preserved g c = let xs = c.args.items.now in
    let h : c.loop-x.x-index < length xs = omega arith in
    rw (hash-step g.T.Hashed.after 14695981039346656037 xs c.loop-x.x-index c.x-item.result h, ← c.loop-x.invariant, ← c.x-item.is) c.into_hash-h.ensures
