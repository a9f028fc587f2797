-- The move by the step, by the branch that is taken (folded, ended, staying): each return by its law of FramesLaws, the fold by `fold-add`.
use Prim.Native.Nat.{ℕ, ◌+◌, ◌*◌}
use native.Mathlib.Omega.{arith}
use mathlib.Core.Path.{ap₂, sym, ap, ◌∙◌}
use Rattle.voice.proofs.MotionLaws.{fold-add}
use Rattle.voice.specs.Motion.{fold}
use Rattle.voice.specs.Changes.{with_moved, sounds}
use Rattle.voice.specs.declared.Stage.{Stage}
use Rattle.voice.proofs.FramesLaws.{folds-loop, go-fold, go-end, go-stay}
use Rattle.voice.proofs.motion.go_on.Goals as goal

pub fold_at-requires : goal.fold_at-requires
fold_at-requires c = let h = folds-loop _ _ (sym c.is_folding.ensures ∙ c.if-is_folding.true) in omega (arith, h)

pub fold_at-p-requires : goal.fold_at-p-requires
fold_at-p-requires c = let h = folds-loop _ _ (sym c.is_folding.ensures ∙ c.if-is_folding.true) in omega (arith, h)

pub returns-then-is_folding : goal.returns-then-is_folding
returns-then-is_folding c = let v = c.args.v in
    let s = c.args.s in
    let st = c.args.step in
    let a = v.loopfrom * 16777216 in
    let b = v.loopto * 16777216 in
    let e = sym c.is_folding.ensures ∙ c.if-is_folding.true in
    let h = folds-loop v s e in
    let p = c.fold_at-p.ensures.0 ∙ ap (λ (x : ℕ). fold a b (x + st)) c.fold_at.ensures.0 ∙ fold-add a b v.place st (omega (arith, h)) in
    ap sounds (c.with_moved.ensures ∙ ap₂ (λ (x : Stage) (y : ℕ). with_moved v x y v.marked) c.age_by.ensures p) ∙ sym (go-fold v s (v.place + st) e)

pub returns-then-z-v : goal.returns-then-z-v
returns-then-z-v c = let v = c.args.v in
    let e = sym c.is_folding.ensures ∙ c.if-is_folding.false in
    sym (go-end v _ _ e (omega (arith, c.if-z-v.true, c.span_of-z.ensures.0)))

pub returns-then-z-p : goal.returns-then-z-p
returns-then-z-p c = let v = c.args.v in
    let e = sym c.is_folding.ensures ∙ c.if-is_folding.false in
    sym (go-end v _ _ e (omega (arith, c.if-z-p.true, c.span_of-z.ensures.0)))

pub returns : goal.returns
returns c = let v = c.args.v in
    let s = c.args.s in
    let st = c.args.step in
    let e = sym c.is_folding.ensures ∙ c.if-is_folding.false in
    ap sounds (c.with_moved-2.ensures ∙ ap (λ (x : Stage). with_moved v x (v.place + st) v.marked) c.age_by-2.ensures)
    ∙ sym (go-stay v s (v.place + st) e (omega (arith, c.if-z-p.false, c.span_of-z.ensures.0)))
