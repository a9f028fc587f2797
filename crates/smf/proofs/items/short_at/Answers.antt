-- `short_at` meets its contract.
use borrow.Author.Tests.{lt-ltb, le-ltb}
use native.Mathlib.Omega.{arith}
use Prim.Native.Nat.{◌+◌}
use Rattle.arith.specs.Bytes.{u8_at}
use Rattle.smf.specs.Items.{short_at}
use Rattle.smf.proofs.items.short_at.Goals as goal

pub returns-then-edge-at : goal.returns-then-edge-at
unfolding short_at
returns-then-edge-at c = let s = c.args in
    simp (lt-ltb s.edge (s.at + 1) (omega arith))

pub returns-then-first-gt127 : goal.returns-then-first-gt127
unfolding short_at
returns-then-first-gt127 c = let s = c.args in
    simp (le-ltb s.edge (s.at + 1) (omega arith), lt-ltb 127 (u8_at s.b.now s.at) (omega (arith, c.byte-first.ensures)))

pub returns : goal.returns
unfolding short_at
returns c = let s = c.args in
    simp (le-ltb s.edge (s.at + 1) (omega arith), le-ltb 127 (u8_at s.b.now s.at) (omega (arith, c.byte-first.ensures)), c.byte-first.ensures)
