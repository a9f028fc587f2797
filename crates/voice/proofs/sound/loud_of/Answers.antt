-- What a frame reads, at its gain and level, by the contracts of its parts one after another.
use mathlib.Core.Bool.{Bool}
use Prim.Native.Nat.{ℕ}
use mir.Syntax.{w64}
use lib.IntN.{ℤ, pos, ◌*ℤ◌}
use lib.Dec.{lit<}
use mathlib.Core.Path.{ap₂, ◌≡◌, ap, ◌∙◌}
use Rattle.voice.specs.Frames.{loud}
use Rattle.voice.specs.Motion.{folds}
use Rattle.voice.specs.Sound.{whole_loss, gained, shaped}
use Rattle.voice.specs.Reading.{reading}
use Rattle.voice.specs.Stages.{envelope}
use Rattle.curves.specs.Levels.{gain_of}
use Rattle.arith.specs.Floors.{floor_z}
use Rattle.arith.proofs.WithinLaws.{w-back}
use Rattle.voice.proofs.sound.loud_of.Goals as goal

pub returns : goal.returns
unfolding loud gained
returns c = let v = c.args.v in
    let s = c.args.s in
    let x = w-back w64 c.read-x.ensures.1 (lit< tt) in
    let u = w-back w64 c.scaled_by-u.ensures.1 (lit< tt) in
    let read : c.read-x.result ≡ reading (folds v s) v.loopfrom v.loopto c.args.w.now v.place =
    c.read-x.ensures.0 ∙ ap (λ (b : Bool). reading b v.loopfrom v.loopto c.args.w.now v.place) c.is_folding-f.ensures in
    let loss : c.total_of-a.result ≡ whole_loss c.args.l (envelope v s) =
    rw (w-back w64 c.requires (lit< tt)) at c.total_of-a.ensures ∙ ap (whole_loss c.args.l) c.envelope_of.ensures.0 in
    let gain : c.gain.result ≡ gain_of (whole_loss c.args.l (envelope v s)) = c.gain.ensures.0 ∙ ap gain_of loss in
    let scaled = rw x at c.scaled_by-u.ensures.0 ∙ ap₂ (λ (y : ℤ) (z : ℕ). floor_z (y *ℤ pos z) 65536) read gain in (
      rw (w-back w64 c.shape.ensures.1 (lit< tt)) (rw u at c.shape.ensures.0 ∙ ap (shaped v s) scaled),
      rw (w-back w64 c.shape.ensures.1 (lit< tt)) c.shape.ensures.1,
    )
