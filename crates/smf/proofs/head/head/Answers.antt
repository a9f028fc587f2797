-- `head` meets its contract.
use mathlib.Core.Path.{◌≡◌, sym, ◌∙◌}
use Rattle.smf.specs.Quantities.{two_at}
use mathlib.Core.List.{List}
use Prim.Native.Nat.{ℕ}
use Rattle.smf.proofs.HeadLaws.{Named, Held, Formatted, Single, head-unnamed, head-short, head-long, head-format, head-tracks, head-undivided, head-smpte, head-good}
use native.Mathlib.Nat.{le_trans}
use lib.Dec.{lit≤}
use Rattle.smf.proofs.head.head.Goals as goal

pub returns-then-four_at-ne-MTHD : goal.returns-then-four_at-ne-MTHD
returns-then-four_at-ne-MTHD c = c.refused.ensures ∙ sym (head-unnamed c.args.b.now (λ n. c.if-four_at-ne-MTHD.true (c.four_at.ensures ∙ n)))

pub returns-then-four_at-lt6 : goal.returns-then-four_at-lt6
returns-then-four_at-lt6 c = let bytes : List ℕ = c.args.b.now in
    let named : Named bytes = record { name = sym c.four_at.ensures ∙ c.if-four_at-ne-MTHD.false } in
    c.refused-then-four_at-lt6.ensures ∙ sym (head-short (bytes) (named) (rw c.four_at-2.ensures at c.if-four_at-lt6.true))

pub returns-then-b-end : goal.returns-then-b-end
returns-then-b-end c = let bytes : List ℕ = c.args.b.now in
    let named : Named bytes = record { name = sym c.four_at.ensures ∙ c.if-four_at-ne-MTHD.false } in
    c.refused-then-b-end.ensures ∙ sym (head-long (bytes) (named) (rw c.four_at-2.ensures at c.if-four_at-lt6.false) (rw c.chunk_end-end.ensures at c.if-b-end.true))

pub returns-then-two_at-ne0 : goal.returns-then-two_at-ne0
returns-then-two_at-ne0 c = let bytes : List ℕ = c.args.b.now in
    let named : Named bytes = record { name = sym c.four_at.ensures ∙ c.if-four_at-ne-MTHD.false } in
    let held : Held (bytes) = record {
      named = named;
      six = rw c.four_at-2.ensures at c.if-four_at-lt6.false;
      in-file = rw c.chunk_end-end.ensures at c.if-b-end.false;
    } in
    let h = held in
    c.refused-then-two_at-ne0.ensures ∙ sym (head-format _ h (λ n. c.if-two_at-ne0.true (c.two_at.ensures ∙ n)))

pub returns-then-two_at-ne1 : goal.returns-then-two_at-ne1
returns-then-two_at-ne1 c = let bytes : List ℕ = c.args.b.now in
    let named : Named bytes = record { name = sym c.four_at.ensures ∙ c.if-four_at-ne-MTHD.false } in
    let held : Held (bytes) = record {
      named = named;
      six = rw c.four_at-2.ensures at c.if-four_at-lt6.false;
      in-file = rw c.chunk_end-end.ensures at c.if-b-end.false;
    } in
    let formatted : Formatted (bytes) = record { held = held; zero-format = sym c.two_at.ensures ∙ c.if-two_at-ne0.false } in
    let h = formatted in
    c.refused-then-two_at-ne1.ensures ∙ sym (head-tracks _ h (λ n. c.if-two_at-ne1.true (c.two_at-2.ensures ∙ n)))

pub returns-then-division-eq0 : goal.returns-then-division-eq0
returns-then-division-eq0 c = let bytes : List ℕ = c.args.b.now in
    let named : Named bytes = record { name = sym c.four_at.ensures ∙ c.if-four_at-ne-MTHD.false } in
    let held : Held (bytes) = record {
      named = named;
      six = rw c.four_at-2.ensures at c.if-four_at-lt6.false;
      in-file = rw c.chunk_end-end.ensures at c.if-b-end.false;
    } in
    let formatted : Formatted (bytes) = record { held = held; zero-format = sym c.two_at.ensures ∙ c.if-two_at-ne0.false } in
    let single : Single (bytes) = record { formatted = formatted; one = sym c.two_at-2.ensures ∙ c.if-two_at-ne1.false } in
    let h = single in
    c.refused-then-division-eq0.ensures ∙ sym (head-undivided _ h (sym c.two_at-division.ensures ∙ c.if-division-eq0.true))

pub returns-then-division-gt32767 : goal.returns-then-division-gt32767
returns-then-division-gt32767 c = let bytes : List ℕ = c.args.b.now in
    let named : Named bytes = record { name = sym c.four_at.ensures ∙ c.if-four_at-ne-MTHD.false } in
    let held : Held (bytes) = record {
      named = named;
      six = rw c.four_at-2.ensures at c.if-four_at-lt6.false;
      in-file = rw c.chunk_end-end.ensures at c.if-b-end.false;
    } in
    let formatted : Formatted (bytes) = record { held = held; zero-format = sym c.two_at.ensures ∙ c.if-two_at-ne0.false } in
    let single : Single (bytes) = record { formatted = formatted; one = sym c.two_at-2.ensures ∙ c.if-two_at-ne1.false } in
    let h = single in
    c.refused-then-division-gt32767.ensures ∙ sym (head-smpte _ h (rw c.two_at-division.ensures at c.if-division-gt32767.true))

pub track_from-requires : goal.track_from-requires
track_from-requires c = (le_trans c.requires (lit≤ tt), c.if-b-end.false)

pub returns : goal.returns
returns c = let bytes : List ℕ = c.args.b.now in
    let named : Named bytes = record { name = sym c.four_at.ensures ∙ c.if-four_at-ne-MTHD.false } in
    let held : Held (bytes) = record {
      named = named;
      six = rw c.four_at-2.ensures at c.if-four_at-lt6.false;
      in-file = rw c.chunk_end-end.ensures at c.if-b-end.false;
    } in
    let formatted : Formatted (bytes) = record { held = held; zero-format = sym c.two_at.ensures ∙ c.if-two_at-ne0.false } in
    let single : Single (bytes) = record { formatted = formatted; one = sym c.two_at-2.ensures ∙ c.if-two_at-ne1.false } in
    let h = single in
    let some : (two_at (bytes) 12 ≡ 0 → ⊥) = λ z. c.if-division-eq0.false (c.two_at-division.ensures ∙ z) in
    let e = c.chunk_end-end.ensures in
    rw e at c.track_from.ensures ∙ sym (head-good _ h some (rw c.two_at-division.ensures at c.if-division-gt32767.false))
