-- Rounds where no stretch may begin, and a stretch else.
use mathlib.Core.Path.{◌≡◌, sym, ap, ap₂, ◌∙◌, subst}
use Prim.Native.Nat.{ℕ, zero, suc, ◌+◌, ◌*◌, ◌<◌}
use mathlib.Core.Bool.{false}
use mathlib.Core.List.{List}
use native.Mathlib.Nat.{not-suc-le-zero}
use native.Mathlib.Omega.{arith}
use borrow.Author.Rules.{sfits_of}
use lib.Dec.{lit<}
use lib.IntN.{ℤ}
use mir.Facts.{to_z-of_z}
use mir.Syntax.{w16, w64}
use mir.Val.{to_z, of_z}
use Rattle.arith.proofs.WithinLaws.{w-back}
use Rattle.curves.specs.Levels.{gain_of}
use Rattle.voice.specs.declared.Stage.{Stage}
use Rattle.voice.specs.declared.Voice.{Voice}
use Rattle.voice.specs.Changes.{with_moved, sounds}
use Rattle.voice.specs.Sound.{whole_loss}
use Rattle.voice.specs.Stages.{envelope, dead, spent_by}
use Rattle.voice.specs.Internal.Calm.{Calms}
use Rattle.voice.specs.Internal.Frames.{heard_at}
use Rattle.voice.specs.Internal.Pace.{value_in, stop_in}
use Rattle.voice.specs.Internal.Rounds.{rings}
use Rattle.voice.specs.Internal.Sides.{share, left_out, right_out}
use Rattle.voice.specs.Internal.Stages.{RoomBy}
use Rattle.voice.specs.Internal.Stretch.{Clear, plains}
use Rattle.voice.specs.Internal.Sums.{Small, add_at}
use Rattle.voice.proofs.PaceLaws.{room}
use Rattle.voice.proofs.RoundsLaws.{Rounded, rounds-slot, rounds-sums}
use Rattle.voice.proofs.StagesLaws.{room-le}
use Rattle.voice.proofs.StretchLaws.{stretch-slot, stretch-sums}
use Rattle.voice.proofs.frames.onward.Goals as goal

-- so many frames before the stop leave room
roomy : (v : Voice) (s : Stage) (m : ℕ) → v.attack < 4294967296 → v.hold < 4294967296 → v.decay < 4294967296 → v.release < 4294967296
    → ((j : ℕ) → j < m → value_in v (spent_by j s) < stop_in v s) → 0 < m → RoomBy m s
roomy v s zero a h d r k z = absurd (not-suc-le-zero z)
roomy v s (suc m) a h d r k z = room v s m a h d r (k m (omega arith))

pub ring-requires : goal.ring-requires
ring-requires c = let y = c.way_of-way.ensures.size in
    let b = w-back w64 c.requires.loss (lit< tt) in
    record { loss = rw b c.requires.loss; sides = (c.sides_of-sides.ensures.1, c.sides_of-sides.ensures.3); way = (y.0, y.1, y.2); sums = (omega (arith, c.few.ensures.0, c.requires.sums.0), c.requires.sums.1) }

pub returns-then-count-eq0 : goal.returns-then-count-eq0
returns-then-count-eq0 c = let counts : (c.args.v.attack < 4294967296) × (c.args.v.hold < 4294967296) × (c.args.v.decay < 4294967296) × (c.args.v.release < 4294967296) = (omega arith, omega arith, omega arith, omega arith) in
    let m : ℕ = c.ring.result.frames in
    let rounded : Rounded c.args.st c.args.l c.args.w.now c.args.v c.args.s c.way_of-way.result c.way_of-way.ensures.leads.0 m = c.ring.ensures.place.1 in
    let pan : to_z w16 (of_z w16 c.args.v.pan) ≡ c.args.v.pan = to_z-of_z {w = w16} {z = c.args.v.pan} (sfits_of c.well_formed.0.1.1.1.1.1.1.1.1.1.1.1.1.1.1.1.1.1.0.1) in
    let left : c.sides_of-sides.result.left ≡ share (left_out c.args.v.pan) = rw pan at c.sides_of-sides.ensures.0 in
    let right : c.sides_of-sides.result.right ≡ share (right_out c.args.v.pan) = rw pan at c.sides_of-sides.ensures.2 in
    let rang : rings c.args.l c.sides_of-sides.result.left c.sides_of-sides.result.right c.args.w.now c.args.v c.args.s c.way_of-way.result m
    ≡ heard_at c.args.st c.args.l c.args.w.now m (sounds c.args.v) = let a = c.args in
    let y = c.way_of-way.result in
    ap₂ (λ (x z : ℕ). rings a.l x z a.w.now a.v a.s y m) (left) (right)
    ∙ sym (rounds-sums a.st a.l a.w.now a.v a.s y c.way_of-way.ensures.leads.0 c.requires.enters c.way_of-way.ensures.leads.1 m rounded) in
    let a = c.args in
    let y = c.way_of-way in
    let n = counts in
    let b = w-back w64 c.requires.loss (lit< tt) in
    record {
      count = (
        omega (arith, c.ring.ensures.count, c.few.ensures.0),
        omega (arith, c.ring.ensures.count, c.few.ensures.1),
        λ z. roomy a.v a.s (m) n.0 n.1 n.2 n.3 (λ j h. (rounded j h).1) z,
      );
      slot = λ z.
          rounds-slot a.st a.l a.w.now a.v a.s y.result y.ensures.leads.0 c.requires.enters y.ensures.leads.1 (m) z (rounded)
          ∙ ap (λ (p : ℕ). sounds (with_moved a.v (spent_by (m) a.s) p a.v.marked)) (sym c.ring.ensures.place.0);
      sums = rw b at c.ring.ensures.sums ∙ ap (λ (xs : List ℤ). add_at (2 * a.k) xs a.acc.now) (rang);
      small = subst (Small 1) (rang) (rw b at c.ring.ensures.small);
    }

pub glide-requires : goal.glide-requires
glide-requires c = let h : 0 < c.ahead-count.result = omega (arith, c.if-count-eq0.false) in
    let here = (c.ahead-count.ensures.alive h).1 in
    let first = c.limit_of-limit.ensures.begins (omega (arith, here)) in
    record { level = (c.gain.ensures.1, c.sides_of-sides.ensures.1, c.sides_of-sides.ensures.3); window = (c.limit_of-limit.ensures.size, λ p q. (c.limit_of-limit.ensures.clear p q).inside); begins = (first.1, first.0, here, c.ahead-count.ensures.count.1); sums = (omega (arith, c.ahead-count.ensures.count.0, c.requires.sums.0), c.requires.sums.1) }

pub returns : goal.returns
returns c = let count : ℕ = c.glide.result.frames in
    let some : 0 < c.ahead-count.result = omega (arith, c.if-count-eq0.false) in
    let voice : Voice = c.args.v in
    let alive : dead voice c.args.s ≡ false = (c.ahead-count.ensures.alive some).0 in
    let calm : Calms voice c.args.s count = λ j h. c.ahead-count.ensures.calm j (omega (arith, c.glide.ensures.count.0)) in
    let clear : (j : ℕ) → j < count → Clear c.args.w.now voice c.args.s c.args.st (voice.place + j * c.args.st) = λ j h. c.limit_of-limit.ensures.clear (voice.place + j * c.args.st) (c.glide.ensures.place.1 j h) in
    let pan : to_z w16 (of_z w16 c.args.v.pan) ≡ c.args.v.pan = to_z-of_z {w = w16} {z = c.args.v.pan} (sfits_of c.well_formed.0.1.1.1.1.1.1.1.1.1.1.1.1.1.1.1.1.1.0.1) in
    let left : c.sides_of-sides.result.left ≡ share (left_out c.args.v.pan) = rw pan at c.sides_of-sides.ensures.0 in
    let right : c.sides_of-sides.result.right ≡ share (right_out c.args.v.pan) = rw pan at c.sides_of-sides.ensures.2 in
    let heard : plains c.gain.result c.sides_of-sides.result.left c.sides_of-sides.result.right c.args.w.now c.args.st voice.place count
    ≡ heard_at c.args.st c.args.l c.args.w.now count (sounds voice) = let a = c.args in
    let w = a.w.now in
    let e = c.gain.ensures.0 ∙ ap gain_of (rw (w-back w64 c.requires.loss (lit< tt)) at c.total_of-a.ensures ∙ ap (whole_loss a.l) c.envelope_of.ensures.0) in
    ap (λ (x : ℕ). plains x c.sides_of-sides.result.left c.sides_of-sides.result.right w a.st voice.place count) e
    ∙ ap₂ (λ (x z : ℕ). plains (gain_of (whole_loss a.l (envelope voice a.s))) x z w a.st voice.place count) (left) (right)
    ∙ sym (stretch-sums a.st a.l w voice a.s alive c.requires.enters count calm clear) in
    let a = c.args in
    record {
      count = (
        omega (arith, c.glide.ensures.count.0, c.ahead-count.ensures.count.0),
        omega (arith, c.glide.ensures.count.0, c.ahead-count.ensures.count.1),
        λ z. room-le a.s c.ahead-count.result (count) c.glide.ensures.count.0 (c.ahead-count.ensures.alive (some)).2,
      );
      slot = λ z.
          stretch-slot a.st a.l a.w.now a.v a.s (alive) c.requires.enters (count) z (calm) (clear)
          ∙ ap (λ (p : ℕ). sounds (with_moved a.v (spent_by (count) a.s) p a.v.marked)) (sym c.glide.ensures.place.0);
      sums = c.glide.ensures.sums ∙ ap (λ (xs : List ℤ). add_at (2 * a.k) xs a.acc.now) (heard);
      small = subst (Small 1) (heard) c.glide.ensures.small;
    }
