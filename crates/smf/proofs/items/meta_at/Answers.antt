-- `meta_at` meets its contract.
use mathlib.Core.Path.{refl, sym, ◌∙◌}
use borrow.Author.Tests.{lt-ltb, le-ltb}
use native.Mathlib.Omega.{arith}
use Prim.Native.Nat.{◌+◌}
use Rattle.smf.proofs.QuantitiesLaws.{quantity-edge}
use Rattle.smf.specs.Items.{meta_at}
use Rattle.smf.proofs.items.meta_at.Goals as goal

pub returns-then-at-edge : goal.returns-then-at-edge
unfolding meta_at
returns-then-at-edge c = let s = c.args in
    rw (quantity-edge s.b.now s.edge (s.at + 1) (omega arith), meta_at) refl

pub returns-in_default : goal.returns-in_default
unfolding meta_at
returns-in_default c = rw (sym c.quantity_at.ensures.0 ∙ c.in_default.is, meta_at) refl

pub returns-then-kind-gt127 : goal.returns-then-kind-gt127
unfolding meta_at
returns-then-kind-gt127 c = rw (sym c.quantity_at.ensures.0 ∙ c.in-Some.is, meta_at, sym c.byte-kind.ensures, lt-ltb _ _ c.if-kind-gt127.true) refl

pub returns-then-edge-q : goal.returns-then-edge-q
unfolding meta_at
returns-then-edge-q c =
    rw (sym c.quantity_at.ensures.0 ∙ c.in-Some.is, meta_at, sym c.byte-kind.ensures, le-ltb _ _ c.if-kind-gt127.false, lt-ltb _ _ c.if-edge-q.true) refl

pub returns : goal.returns
unfolding meta_at
returns c =
    rw (sym c.quantity_at.ensures.0 ∙ c.in-Some.is, meta_at, sym c.byte-kind.ensures, le-ltb _ _ c.if-kind-gt127.false, le-ltb _ _ c.if-edge-q.false) c.meta_of.ensures
