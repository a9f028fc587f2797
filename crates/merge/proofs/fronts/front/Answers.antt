-- `front` meets its contract.
use mathlib.Core.List.{List}
use mathlib.Core.Path.{◌≡◌, sym, ap, ◌∙◌}
use Prim.Native.Nat.{ℕ}
use Rattle.smf.specs.Quantities.{two_at}
use Rattle.smf.proofs.HeadLaws.{Named, Held}
use Rattle.merge.specs.declared.Front.TheVariants.{Refused}
use Rattle.merge.specs.Fronts.{count_number}
use Rattle.merge.proofs.FrontsLaws.{Formed, Counted, front-unnamed, front-short, front_long, front-format, front-count, front-undivided, front-smpte, front-good}
use Rattle.merge.proofs.fronts.front.Goals as goal

pub returns-then-four_at-ne-MTHD : goal.returns-then-four_at-ne-MTHD
returns-then-four_at-ne-MTHD c = c.refused.ensures ∙ sym (front-unnamed c.args.b.now (λ n. c.if-four_at-ne-MTHD.true (c.four_at.ensures ∙ n)))

pub returns-then-four_at-lt6 : goal.returns-then-four_at-lt6
returns-then-four_at-lt6 c = let bytes : List ℕ = c.args.b.now in
    let named : Named bytes = record { name = sym c.four_at.ensures ∙ c.if-four_at-ne-MTHD.false } in
    c.refused-then-four_at-lt6.ensures ∙ sym (front-short (bytes) (named) (rw c.four_at-2.ensures at c.if-four_at-lt6.true))

pub returns-then-b-end : goal.returns-then-b-end
returns-then-b-end c = let bytes : List ℕ = c.args.b.now in
    let named : Named bytes = record { name = sym c.four_at.ensures ∙ c.if-four_at-ne-MTHD.false } in
    c.refused-then-b-end.ensures ∙ sym (front_long (bytes) (named) (rw c.four_at-2.ensures at c.if-four_at-lt6.false) (rw c.chunk_end-end.ensures at c.if-b-end.true))

pub returns-then-format-gt1 : goal.returns-then-format-gt1
returns-then-format-gt1 c = let bytes : List ℕ = c.args.b.now in
    let named : Named bytes = record { name = sym c.four_at.ensures ∙ c.if-four_at-ne-MTHD.false } in
    let held : Held (bytes) = record {
      named = named;
      six = rw c.four_at-2.ensures at c.if-four_at-lt6.false;
      in-file = rw c.chunk_end-end.ensures at c.if-b-end.false;
    } in
    c.refused-then-format-gt1.ensures ∙ sym (front-format _ (held) (rw c.two_at-format.ensures at c.if-format-gt1.true))

pub returns-then-number-ne0 : goal.returns-then-number-ne0
returns-then-number-ne0 c = let bytes : List ℕ = c.args.b.now in
    let named : Named bytes = record { name = sym c.four_at.ensures ∙ c.if-four_at-ne-MTHD.false } in
    let held : Held (bytes) = record {
      named = named;
      six = rw c.four_at-2.ensures at c.if-four_at-lt6.false;
      in-file = rw c.chunk_end-end.ensures at c.if-b-end.false;
    } in
    let formed : Formed (bytes) = record { held = held; format = rw c.two_at-format.ensures at c.if-format-gt1.false } in
    let number_is : c.count_number-number.result ≡ count_number (two_at (bytes) 8) (two_at (bytes) 10) = rw (c.two_at-format.ensures, c.two_at-count.ensures) at c.count_number-number.ensures in
    let n = number_is in
    c.refused-then-number-ne0.ensures ∙ ap (λ (x : ℕ). Refused x 10) n ∙ sym (front-count _ (formed) (λ z. c.if-number-ne0.true (n ∙ z)))

pub returns-then-division-eq0 : goal.returns-then-division-eq0
returns-then-division-eq0 c = let bytes : List ℕ = c.args.b.now in
    let named : Named bytes = record { name = sym c.four_at.ensures ∙ c.if-four_at-ne-MTHD.false } in
    let held : Held (bytes) = record {
      named = named;
      six = rw c.four_at-2.ensures at c.if-four_at-lt6.false;
      in-file = rw c.chunk_end-end.ensures at c.if-b-end.false;
    } in
    let formed : Formed (bytes) = record { held = held; format = rw c.two_at-format.ensures at c.if-format-gt1.false } in
    let number_is : c.count_number-number.result ≡ count_number (two_at (bytes) 8) (two_at (bytes) 10) = rw (c.two_at-format.ensures, c.two_at-count.ensures) at c.count_number-number.ensures in
    let counted : Counted (bytes) = record { formed = formed; none = sym (number_is) ∙ c.if-number-ne0.false } in
    c.refused-then-division-eq0.ensures ∙ sym (front-undivided _ (counted) (sym c.two_at-division.ensures ∙ c.if-division-eq0.true))

pub returns-then-division-gt32767 : goal.returns-then-division-gt32767
returns-then-division-gt32767 c = let bytes : List ℕ = c.args.b.now in
    let named : Named bytes = record { name = sym c.four_at.ensures ∙ c.if-four_at-ne-MTHD.false } in
    let held : Held (bytes) = record {
      named = named;
      six = rw c.four_at-2.ensures at c.if-four_at-lt6.false;
      in-file = rw c.chunk_end-end.ensures at c.if-b-end.false;
    } in
    let formed : Formed (bytes) = record { held = held; format = rw c.two_at-format.ensures at c.if-format-gt1.false } in
    let number_is : c.count_number-number.result ≡ count_number (two_at (bytes) 8) (two_at (bytes) 10) = rw (c.two_at-format.ensures, c.two_at-count.ensures) at c.count_number-number.ensures in
    let counted : Counted (bytes) = record { formed = formed; none = sym (number_is) ∙ c.if-number-ne0.false } in
    c.refused-then-division-gt32767.ensures ∙ sym (front-smpte _ (counted) (rw c.two_at-division.ensures at c.if-division-gt32767.true))

pub returns : goal.returns
returns c = let bytes : List ℕ = c.args.b.now in
    let named : Named bytes = record { name = sym c.four_at.ensures ∙ c.if-four_at-ne-MTHD.false } in
    let held : Held (bytes) = record {
      named = named;
      six = rw c.four_at-2.ensures at c.if-four_at-lt6.false;
      in-file = rw c.chunk_end-end.ensures at c.if-b-end.false;
    } in
    let formed : Formed (bytes) = record { held = held; format = rw c.two_at-format.ensures at c.if-format-gt1.false } in
    let number_is : c.count_number-number.result ≡ count_number (two_at (bytes) 8) (two_at (bytes) 10) = rw (c.two_at-format.ensures, c.two_at-count.ensures) at c.count_number-number.ensures in
    let counted : Counted (bytes) = record { formed = formed; none = sym (number_is) ∙ c.if-number-ne0.false } in
    let n = counted in
    let end = c.chunk_end-end.ensures in
    let some : (two_at (bytes) 12 ≡ 0 → ⊥) = λ z. c.if-division-eq0.false (c.two_at-division.ensures ∙ z) in
    rw (c.two_at-count.ensures, end, c.two_at-division.ensures) (sym (front-good _ n some (rw c.two_at-division.ensures at c.if-division-gt32767.false)))
