-- By its sign and its size.
use mathlib.Core.Path.{◌≡◌, ap, ap₂, ◌∙◌}
use mathlib.Core.Bool.{Bool}
use Prim.Native.Nat.{ℕ}
use lib.IntN.{ℤ, pos, nat_abs}
use lib.Signed.{lt_z}
use mir.Facts.{to_z-of_z}
use mir.Syntax.{w32}
use mir.Val.{to_z, of_z}
use Rattle.wave.specs.Internal.Pcm.{word_of}
use Rattle.wave.proofs.LoweringLaws.{word-signed}
use Rattle.wave.proofs.pcm.word.Goals as goal

pub returns : goal.returns
returns c = let size_is : c.size.result ≡ nat_abs c.args.k = c.size.ensures ∙ ap nat_abs (to_z-of_z c.ranges.k) in
    let sign : lt_z (to_z w32 (of_z w32 c.args.k)) (pos 0) ≡ lt_z c.args.k (pos 0) = ap (λ (k : ℤ). lt_z k (pos 0)) (to_z-of_z c.ranges.k) in
    c.word_of.ensures ∙ ap₂ (λ (b : Bool) (n : ℕ). word_of b n) sign (size_is) ∙ word-signed c.args.k c.requires
