-- `flaw` meets its contract.
use mathlib.Core.Path.{refl, sym, ap, ◌∙◌}
use native.Mathlib.Omega.{arith}
use Prim.Native.Nat.{◌-◌}
use lib.ListN.{length}
use native.Mathlib.Numerals.{add-one}
use Rattle.smf.specs.Songs.{turns}
use Rattle.merge.specs.Entries.{flaw_from}
use Rattle.merge.specs.Internal.Entries.{goes_on}
use Rattle.merge.proofs.EntriesLaws.{onward, flaw-on, flaw-stop}
use Rattle.merge.proofs.entries.flaw.Goals as goal

pub loop-x-init : goal.loop-x-init
loop-x-init c = (refl, c.requires, refl)

pub advanced-x-requires : goal.advanced-x-requires
advanced-x-requires c = c.loop-x.invariant.1

pub loop-x-smaller : goal.loop-x-smaller
loop-x-smaller c = let b = c.args.b.now in
    let s = c.loop-x.invariant.1.seated in
    let g = sym (ap goes_on c.loop-x.invariant.2) ∙ sym c.goes_on.ensures ∙ c.loop-x-test.true in
    let f = (onward b c.loop-x.x s).further g in
    rw c.advanced-x.ensures.value (omega (arith, f))

pub loop-x-preserved : goal.loop-x-preserved
loop-x-preserved c = let b = c.args.b.now in
    let s = c.loop-x.invariant.1.seated in
    let g = sym (ap goes_on c.loop-x.invariant.2) ∙ sym c.goes_on.ensures ∙ c.loop-x-test.true in
    (c.loop-x.invariant.0 ∙ flaw-on b c.loop-x.x s g ∙ ap (flaw_from (turns b) b) (sym c.advanced-x.ensures.value), c.advanced-x.ensures.settled, refl)

pub returns : goal.returns
returns c = let b = c.args.b.now in
    let g = sym (ap goes_on c.loop-x.invariant.2) ∙ sym c.goes_on.ensures ∙ c.loop-x-test.false in
    c.flaw_at.ensures ∙ sym (c.loop-x.invariant.0 ∙ rw add-one (flaw-stop (length b) b c.loop-x.x g))
