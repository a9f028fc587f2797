-- The tests are those of the definition, in its order.
use borrow.Author.Tests.{le-ltb, lt-ltb}
use mathlib.Core.List.{List, ◌++◌}
use mathlib.Core.Path.{refl, ap, ◌∙◌}
use Prim.Native.Nat.{ℕ}
use lib.ListN.{drop}
use Rattle.wave.specs.Headings.{heading_number, headed}
use Rattle.wave.proofs.headings.heading.Goals as goal

pub returns-then-frames-gt1073741814 : goal.returns-then-frames-gt1073741814
unfolding heading_number headed
returns-then-frames-gt1073741814 c = record { value = rw (lt-ltb _ _ c.if-frames-gt1073741814.true) refl; output = rw (lt-ltb _ _ c.if-frames-gt1073741814.true) refl }

pub returns-then-out-lt44 : goal.returns-then-out-lt44
unfolding heading_number headed
returns-then-out-lt44 c = record { value = rw (le-ltb _ _ c.if-frames-gt1073741814.false, lt-ltb _ _ c.if-out-lt44.true) refl; output = rw (le-ltb _ _ c.if-frames-gt1073741814.false, lt-ltb _ _ c.if-out-lt44.true) refl }

pub returns : goal.returns
unfolding heading_number headed
returns c = let a = c.if-frames-gt1073741814.false in let b = c.if-out-lt44.false in
    record { value = rw (le-ltb _ _ a, le-ltb _ _ b) refl; output = rw (le-ltb _ _ a, le-ltb _ _ b) (c.put.ensures ∙ ap (λ (h : List ℕ). h ++ drop 44 c.args.out.now) c.bytes-head.ensures) }
