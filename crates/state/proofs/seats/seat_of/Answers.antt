-- The lowest clear bit is the lowest free slot; where there is none, one is taken.
use mathlib.Core.Path.{◌≡◌, sym, ap, ◌∙◌}
use native.Mathlib.Omega.{arith}
use Prim.Native.Nat.{ℕ}
use borrow.Author.Tests.{lt-ltb, le-ltb}
use lib.ListN.{length, length-map}
use Rattle.arith.specs.Internal.Words.{lowest_clear}
use Rattle.state.specs.Slots.{slots_of}
use Rattle.state.specs.Seats.{lowest_free, seat}
use Rattle.state.proofs.SeatsLaws.{lowest-free}
use Rattle.state.proofs.seats.seat_of.Goals as goal

pub returns-then-i-lt32 : goal.returns-then-i-lt32
unfolding seat
returns-then-i-lt32 c = let lowest : c.lowest_clear-i.result ≡ lowest_free (slots_of c.args.e) = let e = c.args.e in
    let n : length e.voices ≡ 32 = c.well_formed.0.1.1.0.1.0.1 in
    c.lowest_clear-i.ensures ∙ ap (λ (k : ℕ). lowest_clear k e.sounding) (sym n) ∙ sym (lowest-free e.sounding e.voices) in
    let e = c.args.e in
    let low = lowest in
    (low ∙ simp (lt-ltb (lowest_free (slots_of e)) 32 (omega (arith, low, c.if-i-lt32.true))), c.if-i-lt32.true)

pub returns : goal.returns
unfolding seat
returns c = let lowest : c.lowest_clear-i.result ≡ lowest_free (slots_of c.args.e) = let e = c.args.e in
    let n : length e.voices ≡ 32 = c.well_formed.0.1.1.0.1.0.1 in
    c.lowest_clear-i.ensures ∙ ap (λ (k : ℕ). lowest_clear k e.sounding) (sym n) ∙ sym (lowest-free e.sounding e.voices) in
    let e = c.args.e in
    let low = lowest in
    (c.taken_slot.ensures.0 ∙ simp (le-ltb (lowest_free (slots_of e)) 32 (omega (arith, low, c.if-i-lt32.false))), c.taken_slot.ensures.1)
