-- Step and loss are found once, which is the same as at each frame.
use Prim.Native.Nat.{ℕ}
use mathlib.Core.Path.{◌≡◌, sym, ap, ap₂, ◌∙◌, subst}
use mathlib.Core.List.{List}
use lib.Dec.{lit<}
use lib.IntN.{ℤ}
use mir.Syntax.{w64}
use Rattle.arith.proofs.WithinLaws.{w-back}
use Rattle.voice.specs.Motion.{step}
use Rattle.voice.proofs.MotionLaws.{step-at}
use Rattle.voice.specs.Sound.{loss}
use Rattle.voice.specs.Internal.Frames.{after_at, heard_at}
use Rattle.voice.proofs.RunLaws.{once, heard-once}
use Rattle.voice.specs.Internal.Sums.{add_to, Small}
use Rattle.voice.proofs.frames.run.Goals as goal

pub returns : goal.returns
unfolding loss
returns c = let r = c.run_at.ensures in
    let ch = c.args.c in
    let s = c.args.s in
    let v = s.voice in
    let w = c.args.w.now in
    let n = c.args.n in
    let b = w-back w64 c.loss_of-l.ensures.1 (lit< tt) in
    let st : c.step_of-st.result ≡ step ch v = c.step_of-st.ensures ∙ sym (step-at ch v) in
    let l : c.loss_of-l.result ≡ loss ch v = c.loss_of-l.ensures.0 in
    let now = ap₂ (λ (m : ℕ) (y : ℤ). heard_at m y w n s) st l ∙ sym (heard-once ch w s n) in (
      rw b at r.0 ∙ ap₂ (λ (m : ℕ) (y : ℤ). after_at m y w n s) st l ∙ sym (once ch w s n),
      rw b at r.1 ∙ ap (λ (xs : List ℤ). add_to xs c.args.acc.now) now,
      subst (Small 1) now (rw b at r.2),
    )
