-- One frame of a slot, by the branch that is taken (free, dead, in delay, played): each return by its law of FramesLaws.
use borrow.Author.Rules.{sfits_of}
use mir.Facts.{to_z-of_z}
use mir.Syntax.{w64, w32, w16}
use Prim.Native.Nat.{ℕ, ◌+◌}
use lib.Dec.{lit<, lit≤}
use borrow.Author.Tests.{not-true, not-false}
use lib.IntN.{ℤ}
use mathlib.Core.Path.{◌≡◌, sym, ap, ap₂, ◌∙◌, subst}
use Rattle.voice.specs.declared.Framed.{Framed}
use Rattle.voice.specs.declared.Slot.{Slot}
use Rattle.voice.specs.Internal.Sides.{part}
use Rattle.voice.specs.Internal.Sums.{loudest}
use Rattle.voice.proofs.SidesLaws.{part_left, part_right}
use Rattle.voice.specs.Internal.Stages.{RoomBy}
use Rattle.voice.specs.Frames.{silent, loud, go_on, read_and_moved}
use Rattle.voice.specs.Changes.{with_moved, sounds}
use Rattle.voice.specs.Stages.{entered, dead, waiting, spent_by}
use Rattle.voice.specs.declared.Voice.{Voice}
use Rattle.voice.specs.declared.Stage.{Stage}
use Rattle.arith.specs.Within.{Within}
use Rattle.arith.proofs.WithinLaws.{w-nat, w_le, w-back}
use Rattle.voice.proofs.FramesLaws.{frame-free, frame_on, living-dead, living-waits, living-plays}
use Rattle.voice.proofs.frames.frame_at.Goals as goal

-- a frame that adds nothing is the one that is asked for, and within the bound
quiet : {f g : Framed} {s : Slot} → f ≡ silent s → silent s ≡ g → (f ≡ g) × Within f.left loudest × Within f.right loudest
quiet e h = (e ∙ h, rw e (w-nat (lit≤ tt)), rw e (w-nat (lit≤ tt)))

framed : {s s' : Slot} {l l' r r' : ℤ} → s ≡ s' → l ≡ l' → r ≡ r' →
    ◌≡◌ {A = Framed} (record { slot = s; left = l; right = r }) (record { slot = s'; left = l'; right = r' })
framed p q r = cc

pub returns-then-not-s : goal.returns-then-not-s
returns-then-not-s c = quiet c.silent_at.ensures
    (sym (frame-free c.args.st c.args.l c.args.w.now c.args.s (not-true c.args.s.sounding c.if-not-s.true)))

pub returns-then-is_dead : goal.returns-then-is_dead
returns-then-is_dead c = let w = c.args.w.now in
    let st = c.args.st in
    let l = c.args.l in
    let s = c.args.s in
    let v = s.voice in
    let on = frame_on st l w s (not-false s.sounding c.if-not-s.false) in
    let e = c.enter-e.ensures.0 in
    let t = sym (ap (dead v) e) ∙ sym c.is_dead.ensures ∙ c.if-is_dead.true in
    quiet c.silent_at-then-is_dead.ensures (sym (on ∙ living-dead st l w v (entered v v.stage) t))

pub age_by-y-requires : goal.age_by-y-requires
age_by-y-requires c = let room : RoomBy 1 c.enter-e.result = c.enter-e.ensures.1 (sym c.is_dead.ensures ∙ c.if-is_dead.false) in
    room

pub returns-then-is_waiting : goal.returns-then-is_waiting
returns-then-is_waiting c = let w = c.args.w.now in
    let st = c.args.st in
    let l = c.args.l in
    let s = c.args.s in
    let v = s.voice in
    let on = frame_on st l w s (not-false s.sounding c.if-not-s.false) in
    let e = c.enter-e.ensures.0 in
    let t = sym (ap (dead v) e) ∙ sym c.is_dead.ensures ∙ c.if-is_dead.false in
    let u = sym (ap waiting e) ∙ sym c.is_waiting.ensures ∙ c.if-is_waiting.true in
    let m = c.with_moved.ensures ∙ ap (λ (x : Stage). with_moved v x v.place v.marked) (c.age_by-y.ensures ∙ ap (spent_by 1) e) in
    quiet c.silent_at-then-is_waiting.ensures (ap (λ (x : Voice). silent (sounds x)) m ∙ sym (on ∙ living-waits st l w v (entered v v.stage) t u))

pub go_on-n-requires : goal.go_on-n-requires
go_on-n-requires c = let room : RoomBy 1 c.enter-e.result = c.enter-e.ensures.1 (sym c.is_dead.ensures ∙ c.if-is_dead.false) in
    room

pub returns : goal.returns
unfolding read_and_moved
returns c = let w = c.args.w.now in
    let st = c.args.st in
    let l = c.args.l in
    let s = c.args.s in
    let v = s.voice in
    let on = frame_on st l w s (not-false s.sounding c.if-not-s.false) in
    let e = c.enter-e.ensures.0 in
    let t = sym (ap (dead v) e) ∙ sym c.is_dead.ensures ∙ c.if-is_dead.false in
    let u = sym (ap waiting e) ∙ sym c.is_waiting.ensures ∙ c.if-is_waiting.false in
    let loudness = rw (w-back w64 c.requires (lit< tt)) at c.loud_of-u.ensures.0 ∙ ap (loud l w v) e in
    let back = w-back w64 c.loud_of-u.ensures.1 (lit< tt) in
    let inside = subst (λ (q : ℤ). Within q 16777216) loudness (w_le c.loud_of-u.ensures.1 (lit≤ tt)) in
    let pan = to_z-of_z {w = w16} {z = v.pan} (sfits_of c.well_formed.1.1.1.1.0.1.1.1.0.1.1.1.1.1.1.1.1.1.1.1.1.1.1.1.1.1.0.1) in
    let shares = rw pan at c.sides_of-d.ensures in
    let left = rw back at c.part_of-a.ensures.0 ∙ ap₂ (λ (q : ℤ) (i : ℕ). part q i) loudness shares.0 ∙ part_left (loud l w v (entered v v.stage)) v.pan inside in
    let right = rw back at c.part_of-b.ensures.0 ∙ ap₂ (λ (q : ℤ) (i : ℕ). part q i) loudness shares.2 ∙ part_right (loud l w v (entered v v.stage)) v.pan inside in
    let slot = c.go_on-n.ensures ∙ ap (λ (q : Stage). go_on v q (v.place + st)) e in
    rw (w-back w32 c.part_of-a.ensures.1 (lit< tt), w-back w32 c.part_of-b.ensures.1 (lit< tt))
    (framed slot left right ∙ sym (on ∙ living-plays st l w v (entered v v.stage) t u), c.part_of-a.ensures.1, c.part_of-b.ensures.1)
