-- `meta_of` meets its contract.
use borrow.Author.Tests.{lt-ltb, le-ltb, eq-eqb, ne_eqb}
use Rattle.smf.specs.Items.{meta_of}
use Rattle.smf.proofs.items.meta_of.Goals as goal

pub returns-then-kind-eq47 : goal.returns-then-kind-eq47
unfolding meta_of
returns-then-kind-eq47 c = let s = c.args in
    simp (eq-eqb s.kind 47 c.if-kind-eq47.true)

pub returns-then-kind-ne81 : goal.returns-then-kind-ne81
unfolding meta_of
returns-then-kind-ne81 c = let s = c.args in
    simp (ne_eqb s.kind 47 c.if-kind-eq47.false, ne_eqb s.kind 81 c.if-kind-ne81.true)

pub returns-then-n-lt3 : goal.returns-then-n-lt3
unfolding meta_of
returns-then-n-lt3 c = let s = c.args in
    simp (ne_eqb s.kind 47 c.if-kind-eq47.false, eq-eqb s.kind 81 c.if-kind-ne81.false, lt-ltb s.n 3 c.if-n-lt3.true)

pub returns : goal.returns
unfolding meta_of
returns c = let s = c.args in
    simp (ne_eqb s.kind 47 c.if-kind-eq47.false, eq-eqb s.kind 81 c.if-kind-ne81.false, le-ltb s.n 3 c.if-n-lt3.false, c.three_at.ensures)
