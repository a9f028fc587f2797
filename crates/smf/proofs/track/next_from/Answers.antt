-- `next_from` meets its contract.
use mathlib.Core.Path.{refl, sym, ◌∙◌}
use native.Mathlib.Omega.{arith}
use Prim.Native.Nat.{◌-◌}
use Rattle.smf.proofs.TrackLaws.{meet-passed, meet-given, further-edge, next-fault, next-end, next-passed, next-given, next_edge}
use Rattle.smf.proofs.track.next_from.Goals as goal

pub loop-c-init : goal.loop-c-init
loop-c-init c = (refl, c.edge_of-edge.ensures)

pub enum_told-1 : goal.enum_told-1
enum_told-1 c = c.in-Fault.in-Fault-own.keys1

pub returns-in-Fault : goal.returns-in-Fault
returns-in-Fault c = let b = c.args.b.now in
    let e = sym c.meet_at-m.ensures ∙ c.in-Fault.is in
    c.no_event.ensures ∙ sym (c.loop-c.invariant.0 ∙ next-fault b c.loop-c.c _ _ e)

pub enum_told-in-End : goal.enum_told-in-End
enum_told-in-End c = c.in-End.in-End-own.keys2

pub returns-in-End : goal.returns-in-End
returns-in-End c = let b = c.args.b.now in
    let e = sym c.meet_at-m.ensures ∙ c.in-End.is in
    c.no_event-in-End.ensures ∙ sym (c.loop-c.invariant.0 ∙ next-end b c.loop-c.c e)

pub enum_known-m : goal.enum_known-m
enum_known-m c = c.in-Passed.in-Passed-own.keys3

pub loop-c-smaller : goal.loop-c-smaller
loop-c-smaller c = let b = c.args.b.now in
    let e = sym c.meet_at-m.ensures ∙ c.in-Passed.is in
    let f = meet-passed b c.loop-c.c _ e in
    omega (arith, f.after, c.loop-c-test.true)

pub loop-c-preserved : goal.loop-c-preserved
loop-c-preserved c = let b = c.args.b.now in
    let e = sym c.meet_at-m.ensures ∙ c.in-Passed.is in
    let f = meet-passed b c.loop-c.c _ e in
    (c.loop-c.invariant.0 ∙ next-passed b c.loop-c.c _ e, c.loop-c.invariant.1 ∙ sym (further-edge b c.loop-c.c _ f))

pub enum_known-m-in-Given-1 : goal.enum_known-m-in-Given-1
enum_known-m-in-Given-1 c = c.in-Given.in-Given-own.keys4

pub event_of-requires : goal.event_of-requires
event_of-requires c = let b = c.args.b.now in
    let f = (meet-given b c.loop-c.c _ _ (sym c.meet_at-m.ensures ∙ c.in-Given.is)).0 in
    rw f.same-division f.early

pub returns-in-Given : goal.returns-in-Given
returns-in-Given c = let b = c.args.b.now in
    let e = sym c.meet_at-m.ensures ∙ c.in-Given.is in
    rw c.event_of.ensures (sym (c.loop-c.invariant.0 ∙ next-given b c.loop-c.c _ _ e))

pub returns : goal.returns
returns c = let b = c.args.b.now in
    c.no_event-2.ensures ∙ sym (c.loop-c.invariant.0 ∙ next_edge b c.loop-c.c (omega (arith, c.loop-c-test.false, c.loop-c.invariant.1)))
