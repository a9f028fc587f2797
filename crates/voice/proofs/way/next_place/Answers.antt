-- Both sides of the test.
use Prim.Native.Nat.{◌+◌}
use borrow.Author.Tests.{lt-ltb, le-ltb}
use Rattle.voice.proofs.way.next_place.Goals as goal

pub returns-then-n-y : goal.returns-then-n-y
returns-then-n-y c = let a = c.args in simp (lt-ltb (a.p + a.y.step) a.y.end c.if-n-y.true)

pub returns-else-n-y : goal.returns-else-n-y
returns-else-n-y c = let a = c.args in simp (le-ltb (a.p + a.y.step) a.y.end c.if-n-y.false)
