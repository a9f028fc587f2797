-- The 16-bit number of the sum, lowered and held.
use mathlib.Core.Path.{◌≡◌, ap, ◌∙◌}
use lib.Dec.{lit<}
use lib.IntN.{ℤ, pos, negsuc}
use mir.Facts.{to_z-of_z}
use mir.Syntax.{w32}
use mir.Val.{to_z, of_z}
use Rattle.arith.specs.Floors.{mod_z}
use Rattle.arith.specs.Holds.{held_to}
use Rattle.arith.proofs.WithinLaws.{w-back}
use Rattle.wave.specs.Lowering.{lowered_by, sum_word}
use Rattle.wave.specs.Pcm.{pcm_of_k}
use Rattle.wave.proofs.lowering.word.Goals as goal

pub returns : goal.returns
unfolding sum_word
returns c = let read : to_z w32 (of_z w32 c.clip.result) ≡ c.clip.result = w-back w32 c.clip.ensures.1 (lit< tt) in
    c.word.ensures
    ∙ ap (λ (k : ℤ). mod_z (pcm_of_k k) 65536)
    (read ∙ c.clip.ensures.0
    ∙ ap (λ (z : ℤ). held_to (negsuc 8388607) (pos 8388608) (lowered_by c.args.g z)) (to_z-of_z c.ranges.z))
