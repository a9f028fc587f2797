-- One frame is a run of one.
use mathlib.Core.Path.{refl, ap, ◌∙◌, subst}
use Prim.Native.Nat.{◌*◌}
use mathlib.Core.List.{[], ◌∷◌}
use lib.Dec.{lit<}
use mir.Syntax.{w32, w64}
use Rattle.arith.proofs.WithinLaws.{w-back}
use Rattle.voice.specs.declared.Framed.{Framed}
use Rattle.voice.specs.Internal.Frames.{after_at, heard_at}
use Rattle.voice.specs.Internal.Sums.{Small, add_at}
use Rattle.voice.proofs.SumsLaws.{small-none, small-two}
use Rattle.voice.proofs.frames.one.Goals as goal

pub returns : goal.returns
unfolding after_at heard_at
returns c = let e = rw (w-back w64 c.requires.loss (lit< tt)) at c.frame_at-f.ensures.0 in
    let x = c.frame_at-f.ensures.1 in
    let y = c.frame_at-f.ensures.2 in
    record {
      count = refl;
      slot = ap (λ (z : Framed). z.slot) e;
      sums = rw (w-back w32 x (lit< tt), w-back w32 y (lit< tt)) at c.add_pair.ensures
          ∙ ap (λ (z : Framed). add_at (2 * c.args.k) (z.left ∷ z.right ∷ []) c.args.acc.now) e;
      small = subst (λ (z : Framed). Small 1 (z.left ∷ z.right ∷ [])) e (small-two [] c.frame_at-f.result.left c.frame_at-f.result.right small-none x y);
    }
