-- `test_from` meets its contract.
use mathlib.Core.Path.{refl, sym, ap, ◌∙◌}
use native.Mathlib.Omega.{arith}
use Prim.Native.Nat.{◌-◌}
use Rattle.smf.specs.Songs.{verdict}
use Rattle.smf.proofs.TrackLaws.{meet-passed, meet-given, further-edge, song-fault, song-end, song-passed, song-edge}
use Rattle.smf.proofs.SongsLaws.{test-given}
use Rattle.smf.proofs.track.test_from.Goals as goal

pub loop-c-init : goal.loop-c-init
loop-c-init c = (refl, c.edge_of-edge.ensures)

pub enum_known-m : goal.enum_known-m
enum_known-m c = c.in-Fault.in-Fault-own.keys1

pub returns-in-Fault : goal.returns-in-Fault
returns-in-Fault c = let b = c.args.b.now in
    let e = sym c.meet_at-m.ensures ∙ c.in-Fault.is in
    sym (c.loop-c.invariant.0 ∙ ap verdict (song-fault b c.loop-c.c _ _ e))

pub enum_told-1 : goal.enum_told-1
enum_told-1 c = c.in-End.in-End-own.keys2

pub returns-in-End : goal.returns-in-End
returns-in-End c = let b = c.args.b.now in
    let e = sym c.meet_at-m.ensures ∙ c.in-End.is in
    sym (c.loop-c.invariant.0 ∙ ap verdict (song-end b c.loop-c.c e))

pub enum_known-m-in-Passed-1 : goal.enum_known-m-in-Passed-1
enum_known-m-in-Passed-1 c = c.in-Passed.in-Passed-own.keys3

pub loop-c-smaller-in-Passed : goal.loop-c-smaller-in-Passed
loop-c-smaller-in-Passed c = let b = c.args.b.now in
    let e = sym c.meet_at-m.ensures ∙ c.in-Passed.is in
    let f = meet-passed b c.loop-c.c _ e in
    omega (arith, f.after, c.loop-c-test.true)

pub loop-c-preserved-in-Passed : goal.loop-c-preserved-in-Passed
loop-c-preserved-in-Passed c = let b = c.args.b.now in
    let e = sym c.meet_at-m.ensures ∙ c.in-Passed.is in
    let f = meet-passed b c.loop-c.c _ e in
    (c.loop-c.invariant.0 ∙ ap verdict (song-passed b c.loop-c.c _ e), c.loop-c.invariant.1 ∙ sym (further-edge b c.loop-c.c _ f))

pub enum_known-m-in-Given-1 : goal.enum_known-m-in-Given-1
enum_known-m-in-Given-1 c = c.in-Given.in-Given-own.keys4

pub loop-c-smaller : goal.loop-c-smaller
loop-c-smaller c = let b = c.args.b.now in
    let e = sym c.meet_at-m.ensures ∙ c.in-Given.is in
    let f = (meet-given b c.loop-c.c _ _ e).0 in
    omega (arith, f.after, c.loop-c-test.true)

pub loop-c-preserved : goal.loop-c-preserved
loop-c-preserved c = let b = c.args.b.now in
    let e = sym c.meet_at-m.ensures ∙ c.in-Given.is in
    let f = (meet-given b c.loop-c.c _ _ e).0 in
    (c.loop-c.invariant.0 ∙ test-given b c.loop-c.c _ _ e, c.loop-c.invariant.1 ∙ sym (further-edge b c.loop-c.c _ f))

pub returns : goal.returns
returns c = let b = c.args.b.now in
    sym (c.loop-c.invariant.0 ∙ ap verdict (song-edge b c.loop-c.c (omega (arith, c.loop-c-test.false, c.loop-c.invariant.1))))
