-- A turn adds the next frames behind those that are added; where the voice is freed those that are left add nothing.
use mathlib.Core.Path.{◌≡◌, refl, sym, ap, ap₂, ◌∙◌, subst}
use Prim.Native.Nat.{◌+◌, ◌-◌, ◌*◌, ◌<◌}
use mathlib.Core.Bool.{false}
use mathlib.Core.List.{List, ◌++◌}
use native.Mathlib.Omega.{arith}
use borrow.Author.Tests.{not-true, not-false}
use lib.Dec.{lit<}
use lib.IntN.{ℤ, pos}
use lib.ListN.{length, get_or}
use mir.Syntax.{w64}
use mir.Val.{to_z, of_z}
use Rattle.arith.specs.Within.{Within}
use Rattle.arith.proofs.WithinLaws.{w-back}
use Rattle.voice.specs.declared.Slot.{Slot}
use Rattle.voice.specs.Internal.Frames.{after_at, heard_at}
use Rattle.voice.proofs.RunLaws.{heard-length, at_cut, heard_at-cut}
use Rattle.voice.proofs.Silence.{stays, adds-nothing, stays-small}
use Rattle.voice.specs.Internal.Sums.{add_to, add_at, Small, loudest}
use Rattle.voice.proofs.SumsLaws.{add_to-none, add_to-length, add-next, to-beyond, small-none, small-append}
use Rattle.voice.proofs.frames.run_at.Goals as goal

pub loop-k-init : goal.loop-k-init
unfolding after_at heard_at
loop-k-init c = (refl, sym (add_to-none c.args.acc.now), refl, omega arith, omega arith, small-none)

pub returns-then-not-s : goal.returns-then-not-s
returns-then-not-s c = let a = c.args in
    let w = a.w.now in
    let k = c.loop-k.k in
    let z = to_z w64 (of_z w64 a.l) in
    let e : k + (a.n - k) ≡ a.n = omega arith in
    let b = w-back w64 c.requires.loss (lit< tt) in
    let off : (after_at a.st z w k a.s0).sounding ≡ false =
    sym (ap (λ (x : Slot). x.sounding) c.loop-k.invariant.0) ∙ not-true c.loop-k.s.sounding c.if-not-s.true in (
      rw (e, b) at (c.loop-k.invariant.0 ∙ sym (stays a.st z w k a.s0 off (a.n - k))),
      rw (e, b) at (c.loop-k.invariant.1 ∙ sym (adds-nothing a.st z w k a.s0 off a.acc.now (a.n - k))),
      rw (e, b) at (stays-small a.st z w k a.s0 off (a.n - k) c.loop-k.invariant.5),
    )

pub go-f-requires : goal.go-f-requires
go-f-requires c = let a = c.args in
    let z = to_z w64 (of_z w64 a.l) in
    let xs = heard_at a.st z a.w.now c.loop-k.k a.s0 in
    let x : length xs ≡ 2 * c.loop-k.k = heard-length a.st z a.w.now c.loop-k.k a.s0 in
    let t = c.loop-k-test.true in
    record {
      loss = rw (w-back w64 c.requires.loss (lit< tt)) c.requires.loss;
      sounding = not-false c.loop-k.s.sounding c.if-not-s.false;
      sums = (
        omega (arith, t),
        omega (arith, t, c.loop-k.invariant.2, c.loop-k.invariant.4),
        λ j h.
            subst (λ (y : ℤ). Within y (31 * loudest))
            (sym (ap (λ (q : List ℤ). get_or q j (pos 0)) c.loop-k.invariant.1 ∙ to-beyond xs a.acc.now j (omega (arith, x))))
            (c.requires.sums.1 j),
      );
    }

pub overflow_add-k : goal.overflow_add-k
overflow_add-k c = let last : (c.loop-k.k < c.args.n) × (2 * c.args.n < 18446744073709551616) = (c.loop-k-test.true, omega (arith, c.loop-k.invariant.4)) in
    omega (arith, c.go-f.ensures.count, last)

pub loop-k-smaller : goal.loop-k-smaller
loop-k-smaller c = let last : (c.loop-k.k < c.args.n) × (2 * c.args.n < 18446744073709551616) = (c.loop-k-test.true, omega (arith, c.loop-k.invariant.4)) in
    omega (arith, c.go-f.ensures.count, last)

pub loop-k-preserved : goal.loop-k-preserved
loop-k-preserved c = let loss : ℤ = to_z w64 (of_z w64 c.args.l) in
    let last : (c.loop-k.k < c.args.n) × (2 * c.args.n < 18446744073709551616) = (c.loop-k-test.true, omega (arith, c.loop-k.invariant.4)) in
    let a = c.args in
    let w = a.w.now in
    let z = loss in
    let k = c.loop-k.k in
    let m = c.go-f.result.frames in
    let s = after_at a.st z w k a.s0 in
    let xs = heard_at a.st z w k a.s0 in
    let ys = a.acc.now in
    let cut : heard_at a.st z w (k + m) a.s0 ≡ xs ++ heard_at a.st z w m s = heard_at-cut a.st z w k m a.s0 in
    let e =
    c.go-f.ensures.sums
    ∙ ap₂ (λ (x : Slot) (q : List ℤ). add_at (2 * k) (heard_at a.st z w m x) q) c.loop-k.invariant.0 c.loop-k.invariant.1
    ∙ add-next xs (heard_at a.st z w m s) ys (2 * k) (heard-length a.st z w k a.s0)
    ∙ ap (λ (q : List ℤ). add_to q ys) (sym cut) in (
      c.go-f.ensures.slot ∙ ap (after_at a.st z w m) c.loop-k.invariant.0 ∙ sym (at_cut a.st z w k m a.s0),
      e,
      ap length e ∙ add_to-length (heard_at a.st z w (k + m) a.s0) ys,
      omega (arith, c.go-f.ensures.count, last),
      c.loop-k.invariant.4,
      subst (Small 1) (sym cut) (small-append xs (heard_at a.st z w m s) c.loop-k.invariant.5 (subst (λ (x : Slot). Small 1 (heard_at a.st z w m x)) c.loop-k.invariant.0 c.go-f.ensures.small)),
    )

pub returns : goal.returns
returns c = let e : c.loop-k.k ≡ c.args.n = omega arith in
    let b = w-back w64 c.requires.loss (lit< tt) in
    (rw (e, b) at c.loop-k.invariant.0, rw (e, b) at c.loop-k.invariant.1, rw (e, b) at c.loop-k.invariant.5)
