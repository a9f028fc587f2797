-- A delay at once, one frame where neither a stretch nor rounds may go, and else these.
use mathlib.Core.Path.{◌≡◌, sym, ap, ◌∙◌, subst}
use Prim.Native.Nat.{ℕ, ◌*◌, ◌<◌}
use mathlib.Core.Bool.{Bool}
use mathlib.Core.List.{List}
use native.Mathlib.Omega.{arith}
use lib.Dec.{lit<}
use lib.IntN.{ℤ}
use mir.Syntax.{w64}
use Rattle.arith.proofs.WithinLaws.{w-back}
use Rattle.voice.specs.declared.Slot.{Slot}
use Rattle.voice.specs.declared.Stage.{Stage}
use Rattle.voice.specs.declared.Voice.{Voice}
use Rattle.voice.specs.Changes.{with_moved, sounds}
use Rattle.voice.specs.Internal.Frames.{after_at, heard_at}
use Rattle.voice.specs.Internal.Sums.{Small, add_at}
use Rattle.voice.proofs.SumsLaws.{add_at-none}
use Rattle.voice.proofs.WaitLaws.{silence, left-waits, wait-room, wait_slot, wait-sums, add-silence, silence-small}
use Rattle.voice.proofs.frames.go.Goals as goal

abbrev mk : Bool → Voice → Slot
mk b v = record { sounding = b; voice = v }

pub age_by-requires : goal.age_by-requires
age_by-requires c = wait-room c.enter-e.result c.wait-m.result c.if-m-gt0.true (omega (arith, c.wait-m.ensures.0))

pub returns-then-m-gt0 : goal.returns-then-m-gt0
returns-then-m-gt0 c = let on : c.args.s ≡ sounds c.args.s.voice = ap (λ (b : Bool). mk b c.args.s.voice) c.requires.sounding in
    let a = c.args in
    let w = a.w.now in
    let v = a.s.voice in
    let m = c.wait-m.result in
    let q = left-waits v c.enter-e.result m (omega (arith, c.wait-m.ensures.0)) in
    let enters = sym c.enter-e.ensures.0 in
    let quiet : heard_at a.st a.l w m a.s ≡ silence m = ap (heard_at a.st a.l w m) (on) ∙ wait-sums a.st a.l w v c.enter-e.result enters m q in
    record {
      count = (c.if-m-gt0.true, omega (arith, c.wait-m.ensures.0));
      slot = ap sounds (c.with_moved.ensures ∙ ap (λ (x : Stage). with_moved v x v.place v.marked) c.age_by.ensures)
          ∙ sym (wait_slot a.st a.l w v c.enter-e.result enters m c.if-m-gt0.true q)
          ∙ ap (after_at a.st a.l w m) (sym (on));
      sums = sym (ap (λ (xs : List ℤ). add_at (2 * a.k) xs a.acc.now) quiet ∙ add-silence (2 * a.k) m a.acc.now);
      small = subst (Small 1) (sym quiet) (silence-small m);
    }

pub onward-r-requires : goal.onward-r-requires
onward-r-requires c = let p = c.requires.sums in
    record { loss = rw (w-back w64 c.requires.loss (lit< tt)) c.requires.loss; enters = sym c.enter-e.ensures.0; sums = (p.1, p.2) }

-- frames of which none went add nothing
nothing-added : (st : ℕ) (l : ℤ) (w : List ℤ) (k : ℕ) (v : Voice) (acc after : List ℤ) (m : ℕ) → after ≡ add_at (2 * k) (heard_at st l w m (sounds v)) acc → m ≡ 0 → after ≡ acc
unfolding heard_at
nothing-added st l w k v acc after m s e =
    s ∙ ap (λ (n : ℕ). add_at (2 * k) (heard_at st l w n (sounds v)) acc) e ∙ add_at-none (2 * k) acc

pub one-requires : goal.one-requires
one-requires c = let none = nothing-added c.args.st c.args.l c.args.w.now c.args.k c.args.s.voice c.args.acc.now c.onward-r.new.acc c.onward-r.result.frames (rw (w-back w64 c.requires.loss (lit< tt)) at c.onward-r.ensures.sums) in
    let p = c.requires.sums in
    record { loss = rw (w-back w64 c.requires.loss (lit< tt)) c.requires.loss; sums = rw (none c.if-r-eq0.true) (omega (arith, p.0, p.1), p.2) }

pub returns-then-r-eq0 : goal.returns-then-r-eq0
returns-then-r-eq0 c = let none = nothing-added c.args.st c.args.l c.args.w.now c.args.k c.args.s.voice c.args.acc.now c.onward-r.new.acc c.onward-r.result.frames (rw (w-back w64 c.requires.loss (lit< tt)) at c.onward-r.ensures.sums) in
    let a = c.args in
    let b = w-back w64 c.requires.loss (lit< tt) in
    let f = c.one.ensures.count in
    record {
      count = (omega (arith, f), omega (arith, f, c.requires.sums.0));
      slot = rw b at c.one.ensures.slot ∙ ap (λ (m : ℕ). after_at a.st a.l a.w.now m a.s) (sym f);
      sums = rw b at c.one.ensures.sums
          ∙ ap (λ (xs : List ℤ). add_at (2 * a.k) (heard_at a.st a.l a.w.now 1 a.s) xs) (none c.if-r-eq0.true)
          ∙ ap (λ (m : ℕ). add_at (2 * a.k) (heard_at a.st a.l a.w.now m a.s) a.acc.now) (sym f);
      small = subst (λ (m : ℕ). Small 1 (heard_at a.st a.l a.w.now m a.s)) (sym f) (rw b at c.one.ensures.small);
    }

pub age_by-y-requires : goal.age_by-y-requires
age_by-y-requires c = c.onward-r.ensures.count.2 (omega (arith, c.if-r-eq0.false))

pub returns : goal.returns
returns c = let on : c.args.s ≡ sounds c.args.s.voice = ap (λ (b : Bool). mk b c.args.s.voice) c.requires.sounding in
    let a = c.args in
    let w = a.w.now in
    let v = a.s.voice in
    let m = c.onward-r.result.frames in
    let b = w-back w64 c.requires.loss (lit< tt) in
    let some : 0 < m = omega (arith, c.if-r-eq0.false) in
    record {
      count = (some, c.onward-r.ensures.count.0);
      slot = ap sounds (c.with_moved-2.ensures ∙ ap (λ (x : Stage). with_moved v x c.onward-r.result.place v.marked) c.age_by-y.ensures)
          ∙ sym (rw b at (c.onward-r.ensures.slot some))
          ∙ ap (after_at a.st a.l w m) (sym (on));
      sums = rw b at c.onward-r.ensures.sums ∙ ap (λ (x : Slot). add_at (2 * a.k) (heard_at a.st a.l w m x) a.acc.now) (sym (on));
      small = subst (λ (x : Slot). Small 1 (heard_at a.st a.l w m x)) (sym (on)) (rw b at c.onward-r.ensures.small);
    }
