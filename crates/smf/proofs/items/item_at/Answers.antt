-- `item_at` meets its contract.
use mathlib.Core.Path.{refl, sym, ◌∙◌}
use borrow.Author.Tests.{lt-ltb, le-ltb, le-leb, lt-leb, eq-eqb, ne_eqb}
use Rattle.smf.specs.Items.{item_at}
use Rattle.smf.proofs.items.item_at.Goals as goal

pub returns-then-edge-at : goal.returns-then-edge-at
unfolding item_at
returns-then-edge-at c = rw (le-leb _ _ c.if-edge-at.true) refl

pub returns-then-x-lt128 : goal.returns-then-x-lt128
unfolding item_at
returns-then-x-lt128 c = let x = c.byte-x.ensures in
    rw (lt-leb _ _ c.if-edge-at.false, sym x, lt-ltb _ _ c.if-x-lt128.true) c.running_at.ensures

pub returns-then-x-lt240 : goal.returns-then-x-lt240
unfolding item_at
returns-then-x-lt240 c = let x = c.byte-x.ensures in
    rw (lt-leb _ _ c.if-edge-at.false, sym x, le-ltb _ _ c.if-x-lt128.false, lt-ltb _ _ c.if-x-lt240.true) c.spoken_at.ensures

pub returns-then-x : goal.returns-then-x
unfolding item_at
returns-then-x c = let x = c.byte-x.ensures in
    rw (lt-leb _ _ c.if-edge-at.false, sym x, le-ltb _ _ c.if-x-lt128.false, le-ltb _ _ c.if-x-lt240.false, eq-eqb _ _ c.if-x.true) c.meta_at.ensures

pub returns-then-is_exclusive : goal.returns-then-is_exclusive
unfolding item_at
returns-then-is_exclusive c = let x = c.byte-x.ensures in
    let s = sym c.is_exclusive.ensures ∙ c.if-is_exclusive.true in
    rw (lt-leb _ _ c.if-edge-at.false, sym x, le-ltb _ _ c.if-x-lt128.false, le-ltb _ _ c.if-x-lt240.false, ne_eqb _ _ c.if-x.false, s) c.exclusive_at.ensures

pub returns : goal.returns
unfolding item_at
returns c = let x = c.byte-x.ensures in
    let s = sym c.is_exclusive.ensures ∙ c.if-is_exclusive.false in
    rw (lt-leb _ _ c.if-edge-at.false, sym x, le-ltb _ _ c.if-x-lt128.false, le-ltb _ _ c.if-x-lt240.false, ne_eqb _ _ c.if-x.false, s) refl
