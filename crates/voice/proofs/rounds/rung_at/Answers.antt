-- The reading at its gain and level, by the contracts of its parts.
use mathlib.Core.Path.{ap, ap₂, ◌∙◌}
use mathlib.Core.Bool.{Bool}
use Prim.Native.Nat.{ℕ}
use lib.Dec.{lit<}
use lib.IntN.{ℤ, pos, ◌*ℤ◌}
use mir.Syntax.{w64}
use Rattle.arith.specs.Floors.{floor_z}
use Rattle.arith.proofs.WithinLaws.{w-back}
use Rattle.voice.specs.Reading.{reading}
use Rattle.voice.specs.Internal.Rounds.{rung}
use Rattle.voice.proofs.rounds.rung_at.Goals as goal

pub returns : goal.returns
unfolding rung
returns c = let a = c.args in
    let w = a.w.now in
    let e = c.read-x.ensures.0 ∙ ap (λ (b : Bool). reading b a.v.loopfrom a.v.loopto w a.p) c.is_folding-f.ensures in
    let z = rw (w-back w64 c.read-x.ensures.1 (lit< tt)) at c.scaled_by-u.ensures.0 ∙ ap (λ (x : ℤ). floor_z (x *ℤ pos a.gain) 65536) e in
    let y =
    rw (w-back w64 c.scaled_by-u.ensures.1 (lit< tt)) at c.at_level.ensures.0
    ∙ ap₂ (λ (x : ℤ) (l : ℕ). floor_z (x *ℤ pos l) 16777216) z c.level_in-level.ensures in
    rw (w-back w64 c.at_level.ensures.1 (lit< tt)) (y, c.at_level.ensures.1)
